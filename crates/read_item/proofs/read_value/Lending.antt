-- Laws of the lent slices: what is not in use stays zero, and the counts keep within.
-- Assumes nothing.
use Rattle.std.specs.Prelude.{Result, Ok, Err}
use Prim.Native.Nat.{ℕ, zero, suc, ◌+◌, ◌-◌, ◌*◌, ◌/◌, ◌≤◌}
use mathlib.Core.Path.{◌≡◌, refl, sym, ap, subst, ◌∙◌}
use mathlib.Core.List.{List, [], ◌∷◌}
use native.Mathlib.Omega.{arith}
use lib.ListN.{length, take, drop, replicate}
use lib.Seq.{drop-drop, length-take-le}
use Rattle.spec_reading.specs.Format.{ParseOp, SExp, Step, go, whole}
use Rattle.spec_reading.specs.Store.{Stored}
use Rattle.spec_reading.specs.Sound.{Sound}
use Rattle.read_store.specs.Layout.{ops_of}
use Rattle.read_store.proofs.reader_stacks.Stacks.{length_values}
use Rattle.read_store.proofs.Stored.{half}
use Rattle.read_item.specs.declared.settle.Reader.{Reader}
use Rattle.read_item.specs.declared.settle.Item.{Item}
use Rattle.read_item.specs.declared.settle.Item.TheVariants as item
use Rattle.read_item.specs.declared.read_error.ReadError.{ReadError}
use Rattle.read_item.specs.State.{stored_with, Follows, item_with, FollowsItem}
use Rattle.read_item.specs.Whole.{stored_of, zeros_from, item_of, Lent, StandsItem}

drop_zeros : (m k : ℕ) → drop {A = ℕ} m (replicate k 0) ≡ replicate (k - m) 0
drop_zeros zero zero = refl
drop_zeros zero (suc k) = ap (λ (n : ℕ). replicate {A = ℕ} n 0) (same (suc k))
  where
    same : (n : ℕ) → n ≡ n - 0
    same n = omega arith
drop_zeros (suc m) zero = ap (λ (n : ℕ). replicate {A = ℕ} n 0) none
  where
    none : 0 ≡ 0 - suc m
    none = omega arith
drop_zeros (suc m) (suc k) = drop_zeros m k ∙ ap (λ (n : ℕ). replicate {A = ℕ} n 0) both
  where
    both : k - m ≡ suc k - suc m
    both = omega arith

-- What lies past more is zero too.
pub zeros_later : (l l' : List ℕ) (n m : ℕ) → n ≤ m → length l' ≡ length l → drop n l ≡ zeros_from n l → drop m l' ≡ drop m l → drop m l' ≡ zeros_from m l'
zeros_later l l' n m h long z e =
    e ∙ ap (λ (k : ℕ). drop k l) (sym gap) ∙ sym (drop-drop (m - n) n l) ∙ ap (drop (m - n)) z ∙ drop_zeros (m - n) (length l - n) ∙ ap (λ (k : ℕ). replicate {A = ℕ} k 0) count
  where
    gap : n + (m - n) ≡ m
    gap = omega arith

    count : length l - n - (m - n) ≡ length l' - m
    count = omega arith

-- The counts of a sound reader.
pub record Counts (r : Reader) (used : ℕ) : Type 0 where
  pub values : r.values ≤ used
  pub pairs : r.pairs + r.ghosts ≤ 2 * used
  pub atoms : r.atoms ≤ used
  pub bytes : r.bytes ≤ used
  pub ops : r.ops ≤ 2 * used + 1

pub counts : (input w p a b : List ℕ) (r : Reader) (ops : List ParseOp) (used : ℕ) → Lent input w p a b r → r.ops ≤ length ops → Sound used ops (stored_of w p a b r) → Counts r used
counts input w p a b r ops used h few s =
    let n : length (take (2 * r.pairs) p) / 2 ≡ r.pairs = half p (take (2 * r.pairs) p) r.pairs h.pairs_in refl in
    let m : length (take (2 * r.atoms) a) / 2 ≡ r.atoms = half a (take (2 * r.atoms) a) r.atoms h.atoms_in refl in
    let k : length (take r.bytes b) ≡ r.bytes = length-take-le r.bytes b h.bytes_in in
    record {
      values = omega (arith, s.values_bound, length_values w r.values);
      pairs = omega (arith, s.pairs_bound);
      atoms = omega (arith, s.atoms_bound);
      bytes = omega (arith, s.bytes_bound);
      ops = omega (arith, s.ops_bound);
    }

-- The slices after more was stored.
pub lent_after : (input w p a b : List ℕ) (r : Reader) (w' p' a' b' : List ℕ) (r' : Reader) → Lent input w p a b r
    → length w' ≡ length w → length p' ≡ length p → length a' ≡ length a → length b' ≡ length b → r'.position ≤ length input
    → 2 * r'.pairs ≤ length p → r.pairs ≤ r'.pairs → drop (2 * r'.pairs) p' ≡ drop (2 * r'.pairs) p
    → 2 * r'.atoms ≤ length a → r.atoms ≤ r'.atoms → drop (2 * r'.atoms) a' ≡ drop (2 * r'.atoms) a
    → r'.bytes ≤ length b → r.bytes ≤ r'.bytes → drop r'.bytes b' ≡ drop r'.bytes b
    → Lent input w' p' a' b' r'
lent_after input w p a b r w' p' a' b' r' h lw lp la lb inside pi pm pr ai am ar bi bm br =
    record {
      work = omega (arith, h.work);
      pairs_room = omega (arith, h.pairs_room);
      atoms_room = omega (arith, h.atoms_room);
      bytes_room = omega (arith, h.bytes_room);
      short = h.short;
      inside = inside;
      pairs_in = omega arith;
      atoms_in = omega arith;
      bytes_in = omega arith;
      pairs_rest = zeros_later p p' (2 * r.pairs) (2 * r'.pairs) (omega arith) lp h.pairs_rest pr;
      atoms_rest = zeros_later a a' (2 * r.atoms) (2 * r'.atoms) (omega arith) la h.atoms_rest ar;
      bytes_rest = zeros_later b b' r.bytes r'.bytes bm lb h.bytes_rest br;
    }

-- From the joins' view, with the atoms and bytes of a reader, to the whole reader.
module _ (input w p : List ℕ) (r : Reader) (a b : List ℕ) (w' p' : List ℕ) (lent : Lent input w p a b r) (lw : length w' ≡ length w) (lp : length p' ≡ length p)
    (sound : Sound r.position (ops_of w r.ops) (stored_of w p a b r)) where
  stored_same : (s : Reader) → Follows p r p' s → stored_with w' p' (take (2 * r.atoms) a) (take r.bytes b) s ≡ stored_of w' p' a b s
  stored_same s f =
      ap (λ (n : ℕ). stored_with w' p' (take (2 * n) a) (take r.bytes b) s) (sym f.atoms) ∙ ap (λ (n : ℕ). stored_with w' p' (take (2 * s.atoms) a) (take n b) s) (sym f.bytes)

  lent_same : (s : Reader) → Follows p r p' s → Lent input w' p' a b s
  lent_same s f =
      lent_after input w p a b r w' p' a b s lent lw lp refl refl (omega (arith, f.position, lent.inside)) f.pairs_in f.more f.pairs_rest
      (omega (arith, f.atoms, lent.atoms_in)) (omega (arith, f.atoms)) refl (omega (arith, f.bytes, lent.bytes_in)) (omega (arith, f.bytes)) refl

  pub item_same : (i : Result Item ReadError) → FollowsItem w p r w' p' i → item_with input w' p' (take (2 * r.atoms) a) (take r.bytes b) i ≡ item_of input w' p' a b i
  item_same (Ok (item.Go s)) f = ap (λ (x : Stored). go (record { rest = drop s.position input; ops = ops_of w' s.ops; values = x })) (stored_same s f.0)
  item_same (Ok (item.Whole s)) f = ap {B = Step Stored} whole (stored_same s f.0)
  item_same (Err e) f = refl

  pub item_stands : (i : Result Item ReadError) → FollowsItem w p r w' p' i → StandsItem input w' p' a b i
  item_stands (Ok (item.Go s)) f =
      record {
        lent = lent_same s f.0;
        sound = subst (λ (n : ℕ). Sound n (SExp ∷ ops_of w' s.ops) (stored_of w' p' a b s)) (sym f.0.position)
            (subst (Sound r.position (SExp ∷ ops_of w' s.ops)) (stored_same s f.0) (f.1 (take (2 * r.atoms) a) (take r.bytes b) sound));
        lists = f.2;
      }
  item_stands (Ok (item.Whole s)) f =
      record {
        lent = lent_same s f.0;
        sound = subst (λ (n : ℕ). Sound n [] (stored_of w' p' a b s)) (sym f.0.position)
            (subst (Sound r.position []) (stored_same s f.0) (f.1 (take (2 * r.atoms) a) (take r.bytes b) sound));
      }
  item_stands (Err e) f = tt
