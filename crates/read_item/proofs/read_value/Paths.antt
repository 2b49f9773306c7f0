-- Laws of a reference: the walk in the slices is the definition's, and what was pushed is what the definition pushes.
-- Assumes nothing.
use Rattle.std.specs.Prelude.{Result, Ok, Err}
use Prim.Native.Nat.{ℕ, zero, suc, ◌+◌, ◌*◌, ◌/◌, ◌≤◌, ◌<◌}
use mathlib.Core.Path.{◌≡◌, refl, sym, ap, subst, ◌∙◌}
use mathlib.Core.Bool.{Bool, true, false}
use mathlib.Core.List.{List, [], ◌∷◌}
use mathlib.Core.Option.{Option, none, some}
use native.Mathlib.Omega.{arith}
use native.Mathlib.Decide.{ℕ_discrete}
use lib.ListN.{length, take, drop, length-drop}
use lib.Seq.{drop-drop, get_or-take, length-take-le}
use Rattle.words.specs.Words.{at}
use Rattle.words.specs.Lists.{All, all_at}
use Rattle.atom.specs.Parse.{Parse, blob, refused, parse_at, blob_of}
use Rattle.path.specs.Bytes.{read_path}
use Rattle.allocator.specs.Handle.{Node, pair, listed_atom, small_atom, unknown, node_of}
use Rattle.spec_reading.specs.Format.{ParseOp, SExp, stop, settle, pushed, path_item}
use Rattle.spec_reading.specs.Store.{Store, Value, Stored, Listed, Led, add_to_list, list_of, lead, push_led, store_values}
use Rattle.spec_reading.specs.Sound.{Sound, Known, KnownHandle, KnownValue}
use Rattle.spec_reading.proofs.Sound.{sound_path_some}
use Rattle.spec_reading.specs.Sound as sound_law
use Rattle.spec_reading.proofs.Blobs.{length_blob}
use Rattle.read_store.specs.Layout.{VALUES, ops_of, values_of, PushedValue}
use Rattle.read_store.proofs.reader_stacks.Stacks.{ops_same}
use Rattle.read_store.proofs.Stored.{half}
use Rattle.read_path.specs.Answers as walk_law
use Rattle.read_path.specs.Lists.{HaveLists}
use Rattle.read_path.specs.Leads as leads
use Rattle.read_path.specs.declared.stack_list.Built.{Built}
use Rattle.read_path.specs.declared.path_walk.PathIntoAtom.{PathIntoAtom}
use Rattle.read_item.specs.declared.settle.Reader.{Reader}
use Rattle.read_item.specs.declared.read_error.ReadError.{ReadError}
use Rattle.read_item.specs.Refusals.{number}
use Rattle.read_item.specs.State.{stored_with, Ready}
use Rattle.read_item.specs.Values.{BeforePath, path_there, PathPushed, SteppedPath, path_refused}
use Rattle.read_item.proofs.settle.Joins.{length_ops, stored_is, Room, room}
use Rattle.read_item.proofs.read_value.Atoms.{Found, found_at, refused_at}

-- ---- a path changes no atom

list_atoms : (vs : List Value) (s : Store) → ((list_of vs s).store.atoms ≡ s.atoms) × ((list_of vs s).store.bytes ≡ s.bytes)
unfolding list_of
list_atoms [] s = (refl, refl)
list_atoms (v ∷ vs) s = one v.list (list_of vs s) (list_atoms vs s)
  where
    one : (o : Option ℕ) (l : Listed) → (l.store.atoms ≡ s.atoms) × (l.store.bytes ≡ s.bytes)
        → ((add_to_list o v.node l).store.atoms ≡ s.atoms) × ((add_to_list o v.node l).store.bytes ≡ s.bytes)
    one none l h = h
    one (some q) l h = h

lead_atoms : (bs : List Bool) (vs : List Value) (s : Store) → ((lead bs vs s).stored.store.atoms ≡ s.atoms) × ((lead bs vs s).stored.store.bytes ≡ s.bytes)
unfolding lead
lead_atoms bs [] s = (refl, refl)
lead_atoms [] (v ∷ vs) s = list_atoms (v ∷ vs) s
lead_atoms (true ∷ bs) (v ∷ vs) s = lead_atoms bs vs s
lead_atoms (false ∷ bs) (v ∷ vs) s = (refl, refl)

led_atoms : (o : Option (List Bool)) (vs : List Value) (s : Store) → ((leads.led o vs s).stored.store.atoms ≡ s.atoms) × ((leads.led o vs s).stored.store.bytes ≡ s.bytes)
led_atoms none vs s = (refl, refl)
led_atoms (some bits) vs s = lead_atoms bits vs s

push_path_is : (o : Option (List Bool)) (s : Stored) → store_values.push_path o s ≡ push_led (leads.led o s.values s.store).node (leads.led o s.values s.store).stored
push_path_is none s = refl
push_path_is (some bits) s = refl

-- ---- the stack that a walk starts from

known_within : (p a : ℕ) (n : Node) → Known p a n → walk_law.Within p n
known_within p a (pair i) k = k
known_within p a (listed_atom i) k = tt
known_within p a (small_atom v) k = tt
known_within p a (unknown j i) k = tt

values_known : (p a : ℕ) (w : List ℕ) (n : ℕ) → All (KnownValue p a) (values_of w n) → (k : ℕ) → k < n → KnownHandle p a (at w (VALUES + 2 * k))
unfolding values_of
values_known p a w zero h k l = absurd (omega arith)
values_known p a w (suc n) h k l = by_eq (ℕ_discrete k n) (λ m. values_known p a w n h.1 k m)
  where
    by_eq : Dec (k ≡ n) → (k < n → KnownHandle p a (at w (VALUES + 2 * k))) → KnownHandle p a (at w (VALUES + 2 * k))
    by_eq (yes e) f = subst (λ (m : ℕ). KnownHandle p a (at w (VALUES + 2 * m))) (sym e) h.0.node_known
    by_eq (no d) f = f (omega arith)

-- The reader after the node that a path led to was pushed; the path ends at `end`.
abbrev pub led_reader : Reader → Built → ℕ → Reader
led_reader r b end =
    record {
      position = end;
      ops = r.ops;
      values = r.values + 1;
      listed = b.counts.listed;
      pairs = b.counts.pairs;
      atoms = r.atoms;
      bytes = r.bytes;
      ghosts = b.counts.ghosts + 1;
    }

module _ (input w p : List ℕ) (r : Reader) (h : BeforePath input w p r) where
  count : length (take (2 * r.pairs) p) / 2 ≡ r.pairs
  count = half p (take (2 * r.pairs) p) r.pairs h.pairs_in refl

  has : Room w p r (sound_law.conses (SExp ∷ ops_of w r.ops))
  has = room w p h.atoms h.bytes r (SExp ∷ ops_of w r.ops) (omega (arith, h.inside, h.short)) h.pairs_in (omega (arith, length_ops w r.ops)) h.sound

  pub walkable : leads.Walkable w p r.values r.listed r.pairs r.ghosts
  walkable =
      record {
        room =
            record {
              work = h.work;
              pairs = h.room;
              few = omega (arith, has.values);
              ghost = h.sound.holds.ghosts_enough;
              room = omega (arith, has.pairs);
              lists = h.lists.all;
            };
        listed_few = h.lists.few;
        nodes = λ k l.
            known_within r.pairs (length h.atoms / 2) (node_of (at w (VALUES + 2 * k)))
            (subst (λ (n : ℕ). KnownHandle n (length h.atoms / 2) (at w (VALUES + 2 * k))) count
            (values_known (length (take (2 * r.pairs) p) / 2) (length h.atoms / 2) w r.values h.sound.holds.values_known k l));
        there = λ k l.
            known_within r.pairs (length h.atoms / 2) (node_of (at p k))
            (subst (λ (x : ℕ). KnownHandle r.pairs (length h.atoms / 2) x) (get_or-take (2 * r.pairs) p k 0 l)
            (subst (λ (n : ℕ). KnownHandle n (length h.atoms / 2) (at (take (2 * r.pairs) p) k)) count
            (all_at (KnownHandle (length (take (2 * r.pairs) p) / 2) (length h.atoms / 2)) (take (2 * r.pairs) p) 0 k h.sound.holds.words_known
            (omega (arith, length-take-le (2 * r.pairs) p h.pairs_in)))));
      }

  pub few_values : r.values < 131072
  few_values = omega (arith, has.values)

  pub few_ghosts : (b : Built) → leads.SameTotal r.pairs r.ghosts (Ok b) → b.counts.ghosts ≤ 131072
  few_ghosts b n = omega (arith, has.pairs, n.1)

  -- ---- the path that was found

  module _ (start end : ℕ) (f : blob start end ≡ parse_at input (r.position + 1)) where
    at_path : Found input (r.position + 1) start end
    at_path = found_at input (r.position + 1) start end (omega (arith, h.inside)) f

    abbrev pub path_bytes : List ℕ
    path_bytes = blob_of input (blob start end)

    bytes_there : path_bytes ≡ blob_of (drop (r.position + 1) input) (blob at_path.from at_path.size)
    bytes_there = at_path.bytes_are

    end_inside : end ≤ length input
    end_inside = omega (arith, at_path.end_is, at_path.within.inside, length-drop (r.position + 1) input, h.inside)

    pub path_short : length path_bytes ≤ 65535
    path_short =
        let e : length path_bytes ≡ length (blob_of (drop (r.position + 1) input) (blob at_path.from at_path.size)) = ap length bytes_there in
        omega (arith, length_blob (drop (r.position + 1) input) at_path.from at_path.size at_path.within, end_inside, at_path.end_is, h.short)

    abbrev bits : Option (List Bool)
    bits = read_path path_bytes

    -- what the definition does with it
    there_is : (a b : List ℕ) → path_there input w p a b r ≡ pushed store_values (store_values.push_path bits (stored_with w p a b r)) (drop end input) (ops_of w r.ops)
    there_is a b =
        ap (λ (y : Parse). path_item store_values y (drop (r.position + 1) input) (ops_of w r.ops) (stored_with w p a b r)) at_path.parsed
        ∙ ap (λ (l : List ℕ). pushed store_values (store_values.push_path (read_path l) (stored_with w p a b r)) (drop at_path.size (drop (r.position + 1) input))
        (ops_of w r.ops)) (sym bytes_there)
        ∙ ap (λ (l : List ℕ). pushed store_values (store_values.push_path bits (stored_with w p a b r)) l (ops_of w r.ops))
        (drop-drop at_path.size (r.position + 1) input ∙ ap (λ (n : ℕ). drop n input) (sym at_path.end_is))

    abbrev led_with : (a b : List ℕ) → Led
    led_with a b = leads.led bits (values_of w r.values) (stored_with w p a b r).store

    no_node_there : ((s : Store) → s.pairs ≡ take (2 * r.pairs) p → s.ghosts ≡ r.ghosts → (leads.led bits (values_of w r.values) s).node ≡ none) → (a b : List ℕ)
        → path_there input w p a b r ≡ stop 16
    no_node_there no_node a b =
        there_is a b
        ∙ ap (λ (o : Option Stored). pushed store_values o (drop end input) (ops_of w r.ops))
        (push_path_is bits (stored_with w p a b r) ∙ ap (λ (o : Option ℕ). push_led o (led_with a b).stored) (no_node (stored_with w p a b r).store refl refl))

    module _ (w₁ p₁ : List ℕ) (b₁ : Built) (lw : length w₁ ≡ length w) (lp : length p₁ ≡ length p)
        (l : (s : Store) → s.pairs ≡ take (2 * r.pairs) p → s.ghosts ≡ r.ghosts → leads.Leads w p r.values r.pairs (leads.led bits (values_of w r.values) s) w₁ p₁ b₁)
        (more : r.pairs ≤ b₁.counts.pairs) (total : b₁.counts.pairs + b₁.counts.ghosts ≡ r.pairs + r.ghosts)
        (w₂ : List ℕ) (lw₂ : length w₂ ≡ length w₁) (push : PushedValue w₁ w₂ r.values b₁.node.0) where
      ops_are : ops_of w₂ r.ops ≡ ops_of w r.ops
      ops_are =
          push.ops r.ops (omega (arith, has.ops))
          ∙ ops_same w w₁ r.ops (λ k q. (l (stored_with w p [] [] r).store refl refl).low k (omega (arith, has.ops)))

      pushed_is : (a b : List ℕ) → store_values.push_path bits (stored_with w p a b r) ≡ some (stored_with w₂ p₁ a b (led_reader r b₁ end))
      pushed_is a b =
          push_path_is bits (stored_with w p a b r) ∙ ap (λ (o : Option ℕ). push_led o (led_with a b).stored) k.node_is
          ∙ ap {B = Option Stored} some (stored_is _ (values_of w₂ (r.values + 1)) (take (2 * b₁.counts.pairs) p₁) a b (b₁.counts.ghosts + 1)
          (ap (λ (vs : List Value). record { node = b₁.node.0; list = none } ∷ vs) (sym k.values_are) ∙ sym push.values) (sym k.pairs_are)
          (led_atoms bits (values_of w r.values) (stored_with w p a b r).store).0 (led_atoms bits (values_of w r.values) (stored_with w p a b r).store).1
          (ap (λ (n : ℕ). n + 1) (sym k.ghosts_are)))
        where
          k : leads.Leads w p r.values r.pairs (led_with a b) w₁ p₁ b₁
          k = l (stored_with w p a b r).store refl refl

      path_pushed : PathPushed input w p r w₂ p₁ (led_reader r b₁ end)
      path_pushed =
          record {
            same = λ a b.
                there_is a b ∙ ap (λ (o : Option Stored). pushed store_values o (drop end input) (ops_of w r.ops)) (pushed_is a b)
                ∙ ap (λ (ops : List ParseOp). settle store_values (drop end input) ops (stored_with w₂ p₁ a b (led_reader r b₁ end))) (sym ops_are);
            kept = λ a b s.
                subst (λ (n : ℕ). Sound n (ops_of w₂ r.ops) (stored_with w₂ p₁ a b (led_reader r b₁ end))) place
                (subst (λ (ops : List ParseOp). Sound (r.position + (at_path.size + 1)) ops (stored_with w₂ p₁ a b (led_reader r b₁ end))) (sym ops_are)
                (sound_path_some r.position (at_path.size + 1) (ops_of w r.ops) (stored_with w p a b r) (omega arith) (omega (arith, end_inside, at_path.end_is, h.short)) s bits
                (stored_with w₂ p₁ a b (led_reader r b₁ end)) (pushed_is a b)));
            long_work = lw₂ ∙ lw;
            long_pairs = lp;
            inside = end_inside;
            pairs_in = omega (arith, has.pairs, h.room);
            more = more;
            pairs_rest = (l (stored_with w p [] [] r).store refl refl).pairs_rest;
            atoms_same = refl;
            bytes_same = refl;
          }
        where
          place : r.position + (at_path.size + 1) ≡ end
          place = omega (arith, at_path.end_is)

      lists_led : HaveLists w₁ b₁.counts.listed r.values
      lists_led = (l (stored_with w p [] [] r).store refl refl).lists

      path_ready : Ready w₂ p₁ (led_reader r b₁ end)
      path_ready =
          record {
            atoms = h.atoms;
            bytes = h.bytes;
            work = omega (arith, h.work);
            room = omega (arith, h.room);
            limit = omega (arith, end_inside, h.short);
            pairs_in = omega (arith, has.pairs, h.room);
            sound = path_pushed.kept h.atoms h.bytes h.sound;
            lists = record { all = ap sound_law.unlisted (push.below b₁.counts.listed lists_led.few) ∙ lists_led.all; few = omega (arith, lists_led.few) };
          }

    -- What the code's walk along the path's bytes gave.
    module _ (path : List ℕ) (is : path ≡ path_bytes) (w₁ p₁ : List ℕ) where
      -- The walk gave t.
      abbrev pub Gave : List ℕ → Result Built PathIntoAtom → Type 0
      Gave bytes t =
          (s : Store) → s.pairs ≡ take (2 * r.pairs) p → s.ghosts ≡ r.ghosts → leads.LeadsTo w p r.values r.pairs (leads.led (read_path bytes) (values_of w r.values) s) w₁ p₁ t

      pub path_into_atom : (into : PathIntoAtom) → Gave path (Err into) → (why : ReadError) → number why ≡ 16 → SteppedPath input w p r w₁ p₁ (Err why)
      path_into_atom into l why e = path_refused why refl (λ a b. no_node_there (rw is at l) a b ∙ ap (λ (n : ℕ). stop n) (sym e))

      -- The reader after the push: the slices are ready, and the node is on top.
      pub node_on_top : (b₁ : Built) → Gave path (Ok b₁) → leads.SameTotal r.pairs r.ghosts (Ok b₁) → length w₁ ≡ length w → length p₁ ≡ length p
          → (w₂ : List ℕ) → length w₂ ≡ length w₁ → PushedValue w₁ w₂ r.values b₁.node.0 → (r' : Reader) → r' ≡ led_reader r b₁ end
          → Ready w₂ p₁ r' × PathPushed input w p r w₂ p₁ r'
      node_on_top b₁ l m lw lp w₂ lw₂ push r' f =
          let k = rw is at l in
          subst (λ (x : Reader). Ready w₂ p₁ x × PathPushed input w p r w₂ p₁ x) (sym f)
          (path_ready w₁ p₁ b₁ lw lp k m.0 m.1 w₂ lw₂ push, path_pushed w₁ p₁ b₁ lw lp k m.0 m.1 w₂ lw₂ push)

-- The parser's refusal is the definition's.
pub path_turned_down : (input w p : List ℕ) (r : Reader) (why : ReadError) → refused (number why) ≡ parse_at input (r.position + 1) → SteppedPath input w p r w p (Err why)
path_turned_down input w p r why e =
    path_refused why refl
    (λ a b.
    ap (λ (y : Parse). path_item store_values y (drop (r.position + 1) input) (ops_of w r.ops) (stored_with w p a b r))
    (refused_at input (r.position + 1) (number why) e))
