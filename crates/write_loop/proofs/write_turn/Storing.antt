-- A word of the open pairs is stored.
-- Assumes nothing.
use Prim.Native.Nat.{ℕ, suc, ◌+◌, ◌*◌, ◌/◌, ◌%◌, ◌<◌}
use mathlib.Core.Path.{◌≡◌, refl, sym, ap, ◌∙◌}
use mathlib.Core.List.{List, [], ◌∷◌}
use native.Mathlib.Omega.{arith}
use native.Mathlib.Decide.{ℕ_discrete}
use lib.ListN.{length, set, length-set}
use lib.Seq.{get_or-set_same, get_or-set_other}
use borrow.Author.Tests.{eq-eqb, ne_eqb}
use Rattle.words.specs.Words.{at}
use Rattle.spec_session.specs.File.{File}
use Rattle.spec_session.specs.Unfold.{unfolded}
use Rattle.spec_session.specs.Cache.{Cache}
use Rattle.spec_session.specs.Writer.{Todo, parse, close, Written}
use Rattle.work_layout.specs.Layout.{PAIRS, PAIR_COUNT, OPEN, STACK, WRITTEN}
use Rattle.cache_stack.specs.Effects.{Stacked}
use Rattle.cache_stack.proofs.Stacks.{stacked_same, stack_same}
use Rattle.cache_stack.proofs.marks.Bits.{marked_same}
use Rattle.cache_entries.specs.Meaning.{Tables, Whole}
use Rattle.write_counts.specs.declared.Counts.{Counts}
use Rattle.write_place.specs.State.{left_to_write, todo_of, rights_left, Standing, Writes, WriterOnly}
use Rattle.write_loop.proofs.write_turn.Frames.{whole_stays, counts_stay, holds_stay, pairs_stay, todo_same, rights_same, rights_more}

-- ---- what is left to write, by the innermost pair's word

pub todo_none : (f : File) (w : List ℕ) → ◌≡◌ {A = List Todo} (todo_of f w 0) []
unfolding todo_of
todo_none f w = refl

pub todo_more : (f : File) (w : List ℕ) (n : ℕ) → todo_of f w (suc n) ≡ left_to_write f w (at w (OPEN + n)) (todo_of f w n)
unfolding todo_of
todo_more f w n = refl

pub left_odd : (f : File) (w : List ℕ) (v : ℕ) (k : List Todo) → v % 2 ≡ 1
    → left_to_write f w v k ≡ parse (unfolded f (at w (PAIRS + 2 * (v / 2) + 1))) ∷ close (v / 2) ∷ k
left_odd f w v k q = rw (eq-eqb (v % 2) 1 q)

pub left_even : (f : File) (w : List ℕ) (v : ℕ) (k : List Todo) → (v % 2 ≡ 1 → ⊥) → left_to_write f w v k ≡ close (v / 2) ∷ k
left_even f w v k q = rw (ne_eqb (v % 2) 1 q)

-- ---- the store

module _ (w : List ℕ) (n v : ℕ) (few : n < 4096) (wh : Whole w) where
  abbrev stored : List ℕ
  stored = set w (OPEN + n) v

  store_other : (k : ℕ) → (k ≡ OPEN + n → ⊥) → at stored k ≡ at w k
  store_other k q = get_or-set_other w (OPEN + n) k v 0 q

  store_here : at stored (OPEN + n) ≡ v
  store_here = get_or-set_same w (OPEN + n) v 0 (omega (arith, wh.sound.long))

  store_length : length stored ≡ length w
  store_length = length-set w (OPEN + n) v

  pub store_only : WriterOnly w stored
  store_only =
      record {
        low = λ k h. store_other k (λ q. omega arith);
        cache = λ k h l. store_other k (λ q. omega arith);
        high = λ k h. store_other k (λ q. omega arith);
      }

  store_older : (i : ℕ) → i < n → at stored (OPEN + i) ≡ at w (OPEN + i)
  store_older i h = store_other (OPEN + i) (λ q. omega arith)

  pub store_standing : (d x : ℕ) → Stacked w d → Standing w n d x → (values : ℕ) → v / 2 < at w PAIR_COUNT
      → d + (v % 2 + rights_left w n) ≡ suc n + values → Standing stored (suc n) d values
  store_standing d x st s values low e =
      let p = pairs_stay w stored store_length store_only wh in
      record {
        whole = whole_stays w stored store_length store_only wh;
        stacked = stacked_same w stored d st (λ k h l. store_other k (λ q. omega arith));
        counts = omega (arith, counts_stay w stored store_length store_only wh, s.counts);
        few_opens = omega arith;
        pairs = λ i h. each i h (ℕ_discrete i n);
        balance =
            omega (arith, e, rights_more stored n, ap (λ (y : ℕ). y % 2) store_here, rights_same w stored n store_older);
      }
    where
      each : (i : ℕ) → i < suc n → Dec (i ≡ n) → at stored (OPEN + i) / 2 < at stored PAIR_COUNT
      each i h (yes q) = rw (q, store_here, pairs_stay w stored store_length store_only wh) low
      each i h (no q) = rw (store_older i (omega arith), pairs_stay w stored store_length store_only wh) (s.pairs i (omega arith))

  pub store_todo : (f : File) → ((i : ℕ) → i < n → at w (OPEN + i) / 2 < 1024)
      → todo_of f stored (suc n) ≡ left_to_write f stored v (todo_of f w n)
  store_todo f low =
      todo_more f stored n
      ∙ ap (λ (y : ℕ). left_to_write f stored y (todo_of f stored n)) store_here
      ∙ ap (λ (k : List Todo). left_to_write f stored v k) (todo_same f w stored n store_only.low store_older low)

  -- Stack and marks stay.
  pub store_writes : (f : File) (c : Cache) (out : List ℕ) (d : ℕ) (counts : Counts) (s : Written) → Stacked w d → Tables f w → Writes f w out d counts c s
      → Writes f stored out d counts c s
  store_writes f c out d counts s st t wr =
      record {
        cache = holds_stay w stored store_length store_only wh f c t wr.cache;
        stack = wr.stack ∙ sym (stack_same w stored d (λ i h. store_other (STACK + i) (λ q. omega arith)));
        marks = λ e l. wr.marks e l ∙ sym (marked_same w stored e l (λ i h. store_other (WRITTEN + i) (λ q. omega arith)));
        counts_are = wr.counts_are;
        bytes_are = wr.bytes_are;
      }
