-- Laws of the joins: what a sound reader has room for, and that a join in the slices is the definition's.
-- Assumes nothing.
use Prim.Native.Nat.{ℕ, zero, suc, ◌+◌, ◌-◌, ◌*◌, ◌/◌, ◌≤◌, ◌<◌}
use mathlib.Core.Path.{◌≡◌, refl, sym, ap, subst, ◌∙◌}
use mathlib.Core.List.{List, [], ◌∷◌}
use native.Mathlib.Omega.{arith}
use lib.ListN.{length, take, drop}
use lib.Seq.{drop-drop}
use Rattle.words.specs.Words.{at}
use Rattle.spec_reading.specs.Format.{ParseOp, SExp, Cons, settle}
use Rattle.spec_reading.specs.Store.{Store, Value, Stored, join_values, store_values}
use Rattle.spec_reading.specs.Sound.{Sound, unlisted, conses}
use Rattle.spec_reading.proofs.Sound.{sound_join, sound_two}
use Rattle.read_store.specs.Layout.{OPS, op_of, ops_of, value_at, values_of}
use Rattle.read_store.proofs.reader_stacks.Stacks.{ops_more, values_two, length_values, drop_values}
use Rattle.read_store.specs.Joined.{Joined}
use Rattle.read_store.proofs.Stored.{half}
use Rattle.read_path.specs.Lists.{HaveLists}
use Rattle.read_path.proofs.stack_list.Adding.{fewer_listed}
use Rattle.read_item.specs.declared.settle.Reader.{Reader}
use Rattle.read_item.specs.State.{stored_with, Ready, Onward, NoJoin}

pub length_ops : (w : List ℕ) (n : ℕ) → length (ops_of w n) ≡ n
unfolding ops_of
length_ops w zero = refl
length_ops w (suc n) = ap suc (length_ops w n)

-- The topmost operation.
pub ops_top : (w : List ℕ) (n : ℕ) → 0 < n → ops_of w n ≡ op_of (at w (OPS + (n - 1))) ∷ ops_of w (n - 1)
ops_top w n h = let e : n ≡ n - 1 + 1 = omega arith in ap (ops_of w) e ∙ ops_more w (n - 1)

-- A stored reader by its parts.
pub stored_is : (s : Stored) (vs : List Value) (p a b : List ℕ) (g : ℕ) → s.values ≡ vs → s.store.pairs ≡ p → s.store.atoms ≡ a → s.store.bytes ≡ b → s.store.ghosts ≡ g
    → s ≡ record { values = vs; store = record { pairs = p; atoms = a; bytes = b; ghosts = g } }
stored_is s vs p a b g ev ep ea eb eg = λ i. record { values = ev i; store = record { pairs = ep i; atoms = ea i; bytes = eb i; ghosts = eg i } }

-- What a sound reader has room for.
pub record Room (w p : List ℕ) (r : Reader) (conses-left : ℕ) : Type 0 where
  pub values : r.values ≤ 65535
  pub ops : r.ops ≤ 131071
  pub pairs : r.pairs + r.ghosts + 2 * conses-left ≤ 131070

pub room : (w p a b : List ℕ) (r : Reader) (ops : List ParseOp) → r.position ≤ 65535 → 2 * r.pairs ≤ length p → r.ops ≤ length ops → Sound r.position ops (stored_with w p a b r)
    → Room w p r (conses ops)
room w p a b r ops limit pairs_in few s =
    let n : length (take (2 * r.pairs) p) / 2 ≡ r.pairs = half p (take (2 * r.pairs) p) r.pairs pairs_in refl in
    record { values = omega (arith, s.values_bound, length_values w r.values); ops = omega (arith, s.ops_bound); pairs = omega (arith, s.pairs_bound) }

module _ (w p : List ℕ) (r : Reader) (h : Ready w p r) (ops : List ParseOp) (top : ops_of w r.ops ≡ Cons ∷ ops) where
  sound : Sound r.position (Cons ∷ ops) (stored_with w p h.atoms h.bytes r)
  sound = rw top at h.sound

  pub join_two : 2 ≤ r.values
  join_two = omega (arith, length_values w r.values, sound_two r.position ops (stored_with w p h.atoms h.bytes r) sound)

  pub join_room : Room w p r (suc (conses ops))
  join_room = room w p h.atoms h.bytes r (Cons ∷ ops) h.limit h.pairs_in (omega (arith, length_ops w r.ops, ap length top)) sound

-- A join in the slices is the definition's.
module _ (w p : List ℕ) (r : Reader) (w' p' : List ℕ) (h : Ready w p r) (ops-left : 0 < r.ops) (top : ops_of w r.ops ≡ Cons ∷ ops_of w (r.ops - 1))
    (j : Joined w p r.values r.pairs w' p') (listed : ℕ) (known : listed ≤ r.listed) (below : listed ≤ r.values - 2) where
  abbrev pub joined_reader : Reader
  joined_reader = record { position = r.position; ops = r.ops - 1; values = r.values - 1; listed = listed; pairs = r.pairs + 1; atoms = r.atoms; bytes = r.bytes; ghosts = r.ghosts + 1 }

  two : 2 ≤ r.values
  two = join_two w p r h (ops_of w (r.ops - 1)) top

  rm : Room w p r (suc (conses (ops_of w (r.ops - 1))))
  rm = join_room w p r h (ops_of w (r.ops - 1)) top

  ops_are : ops_of w' (r.ops - 1) ≡ ops_of w (r.ops - 1)
  ops_are = j.ops (r.ops - 1) (omega (arith, rm.ops))

  join_is : (a b : List ℕ) → join_values (values_of w r.values) (stored_with w p a b r).store ≡ stored_with w' p' a b joined_reader
  join_is a b =
      stored_is (join_values (values_of w r.values) s) (values_of w' (r.values - 1)) (take (2 * (r.pairs + 1)) p') a b (r.ghosts + 1)
      (sym (j.values_are s refl)) (sym (j.pairs_are s refl)) (ap (λ (vs : List Value). (join_values vs s).store.atoms) (values_two w r.values two))
      (ap (λ (vs : List Value). (join_values vs s).store.bytes) (values_two w r.values two)) (ap (λ (vs : List Value). (join_values vs s).store.ghosts) (values_two w r.values two))
    where
      s : Store
      s = (stored_with w p a b r).store

  -- The values below the two are as they were, so they have their lists.
  values_below : values_of w' listed ≡ values_of w listed
  values_below =
      sym (drop_values w' (r.values - 1) (r.values - 1 - listed) (omega (arith, two)) ∙ ap (values_of w') back)
      ∙ ap (drop (r.values - 1 - listed)) (j.values_are s refl ∙ ap (λ (vs : List Value). (join_values vs s).values) (values_two w r.values two))
      ∙ ap (λ (n : ℕ). drop n (join_values (value_at w (r.values - 1) ∷ value_at w (r.values - 2) ∷ values_of w (r.values - 2)) s).values) past
      ∙ drop_values w (r.values - 2) (r.values - 2 - listed) (omega arith) ∙ ap (values_of w) back_2
    where
      s : Store
      s = (stored_with w p [] [] r).store

      back : r.values - 1 - (r.values - 1 - listed) ≡ listed
      back = omega (arith, two)

      back_2 : r.values - 2 - (r.values - 2 - listed) ≡ listed
      back_2 = omega arith

      past : r.values - 1 - listed ≡ suc (r.values - 2 - listed)
      past = omega (arith, two)

  pub joined_onward : Onward w p r w' p' joined_reader
  joined_onward =
      record {
        follows =
            record {
              pairs_in = omega (arith, h.room, rm.pairs);
              more = omega arith;
              pairs_rest = j.pairs_rest;
              position = refl;
              atoms = refl;
              bytes = refl;
            };
        kept = λ a b s. rw ops_are
            (subst (Sound r.position (ops_of w (r.ops - 1))) (join_is a b) (sound_join r.position (ops_of w (r.ops - 1)) (stored_with w p a b r) h.limit (rw top at s)));
        same = λ rest a b. rw (top, ops_are) (ap (λ (s : Stored). settle store_values rest (ops_of w (r.ops - 1)) s) (join_is a b));
        lists = record { all = ap unlisted values_below ∙ fewer_listed w listed r.listed known h.lists.all; few = omega (arith, two) };
      }

-- ---- one join after the other

pub onward_none : (w p : List ℕ) (r : Reader) → 2 * r.pairs ≤ length p → HaveLists w r.listed r.values → Onward w p r w p r
onward_none w p r h l =
    record {
      follows = record { pairs_in = h; more = omega arith; pairs_rest = refl; position = refl; atoms = refl; bytes = refl };
      kept = λ a b s. s;
      same = λ rest a b. refl;
      lists = l;
    }

pub onward_both : (w₀ p₀ : List ℕ) (r₀ : Reader) (w p : List ℕ) (r : Reader) (w' p' : List ℕ) (r' : Reader) → length p ≡ length p₀
    → Onward w₀ p₀ r₀ w p r → Onward w p r w' p' r' → Onward w₀ p₀ r₀ w' p' r'
onward_both w₀ p₀ r₀ w p r w' p' r' long h k =
    record {
      follows =
          record {
            pairs_in = omega (arith, k.follows.pairs_in);
            more = omega (arith, h.follows.more, k.follows.more);
            pairs_rest = k.follows.pairs_rest ∙ later;
            position = k.follows.position ∙ h.follows.position;
            atoms = k.follows.atoms ∙ h.follows.atoms;
            bytes = k.follows.bytes ∙ h.follows.bytes;
          };
      kept = λ a b s. subst (λ (n : ℕ). Sound n (ops_of w' r'.ops) (stored_with w' p' a b r')) h.follows.position
          (k.kept a b (subst (λ (n : ℕ). Sound n (ops_of w r.ops) (stored_with w p a b r)) (sym h.follows.position) (h.kept a b s)));
      same = λ rest a b. h.same rest a b ∙ k.same rest a b;
      lists = k.lists;
    }
  where
    gap : 2 * r.pairs + (2 * r'.pairs - 2 * r.pairs) ≡ 2 * r'.pairs
    gap = omega (arith, k.follows.more)

    later : drop (2 * r'.pairs) p ≡ drop (2 * r'.pairs) p₀
    later =
        ap (λ (n : ℕ). drop n p) (sym gap) ∙ sym (drop-drop (2 * r'.pairs - 2 * r.pairs) (2 * r.pairs) p) ∙ ap (drop (2 * r'.pairs - 2 * r.pairs)) h.follows.pairs_rest
        ∙ drop-drop (2 * r'.pairs - 2 * r.pairs) (2 * r.pairs) p₀ ∙ ap (λ (n : ℕ). drop n p₀) gap

-- A reader that came so far is ready for the next join.
pub ready_on : (w₀ p₀ : List ℕ) (r₀ : Reader) (w p : List ℕ) (r : Reader) → Ready w₀ p₀ r₀ → length w ≡ length w₀ → length p ≡ length p₀ → Onward w₀ p₀ r₀ w p r → Ready w p r
ready_on w₀ p₀ r₀ w p r h lw lp k =
    record {
      atoms = h.atoms;
      bytes = h.bytes;
      work = omega (arith, h.work);
      room = omega (arith, h.room);
      limit = omega (arith, h.limit, k.follows.position);
      pairs_in = omega (arith, k.follows.pairs_in);
      sound = subst (λ (n : ℕ). Sound n (ops_of w r.ops) (stored_with w p h.atoms h.bytes r)) (sym k.follows.position) (k.kept h.atoms h.bytes h.sound);
      lists = k.lists;
    }

-- The word of the topmost operation says whether it is a join.
pub top_join : (w : List ℕ) (n : ℕ) → 0 < n → (at w (OPS + (n - 1)) ≡ 0 → ⊥) → ops_of w n ≡ Cons ∷ ops_of w (n - 1)
top_join w n h d = ops_top w n h ∙ ap (λ (o : ParseOp). o ∷ ops_of w (n - 1)) (is_cons (at w (OPS + (n - 1))) d)
  where
    is_cons : (k : ℕ) → (k ≡ 0 → ⊥) → op_of k ≡ Cons
    is_cons zero q = absurd (q refl)
    is_cons (suc k) q = refl

pub top_tree : (w : List ℕ) (n : ℕ) → 0 < n → at w (OPS + (n - 1)) ≡ 0 → ops_of w n ≡ SExp ∷ ops_of w (n - 1)
top_tree w n h e = ops_top w n h ∙ ap (λ (k : ℕ). op_of k ∷ ops_of w (n - 1)) e

pub no_join_tree : (w : List ℕ) (n : ℕ) → 0 < n → at w (OPS + (n - 1)) ≡ 0 → NoJoin (ops_of w n)
no_join_tree w n h e = rw (top_tree w n h e) tt

pub no_join_end : (w : List ℕ) (n : ℕ) → n ≤ 0 → NoJoin (ops_of w n)
unfolding ops_of
no_join_end w zero h = tt
no_join_end w (suc n) h = absurd (omega arith)

pub ready_ops : (w p : List ℕ) (r : Reader) → Ready w p r → r.ops ≤ 131071
ready_ops w p r h = omega (arith, h.sound.ops_bound, h.limit, length_ops w r.ops)
