-- What a write's answer says: where the bytes end, or that they do not fit; and the counts with an item that was written.
-- Assumes nothing.
use Prim.Native.Nat.{ℕ, ◌+◌, ◌≤◌, ◌<◌}
use mathlib.Core.Path.{◌≡◌, ap, sym, ◌∙◌}
use mathlib.Core.List.{List}
use mathlib.Core.Option.{some}
use Rattle.std.specs.Prelude.{Ok}
use native.Mathlib.Omega.{arith}
use lib.ListN.{length}
use lib.Seq.{paste}
use Rattle.words.specs.Choice.{by_lt, clash}
use Rattle.atom.specs.Write.{next, full, Written, put}
use Rattle.atom.specs.WriteLaws.{put_full, put_room}
use Rattle.spec_session.specs.Items.{Item, item_size, reference_count, item_prefix, item_bytes}
use Rattle.spec_session.proofs.Output.{item_size_is}
use Rattle.write_counts.specs.declared.Counts.{Counts}
use Rattle.write_counts.specs.Counts.{grown, Bounded}
use Rattle.write_counts.specs.CountLaws.{bounded_more}
use Rattle.write_item.specs.Answers.{ItemPut}

-- ---- bytes that fit, and bytes that do not

pub record PutNext (out out' : List ℕ) (p : ℕ) (bytes : List ℕ) (m : ℕ) : Type 0 where
  pub end : m ≡ p + length bytes
  pub fits : p + length bytes ≤ length out
  pub is : out' ≡ paste out p bytes (length bytes)

not_both : (m : ℕ) → next m ≡ full → ⊥
not_both m q = clash cc

next_is : (m n : ℕ) → next m ≡ next n → m ≡ n
next_is m n q = cc

module _ (out out' : List ℕ) (p : ℕ) (bytes : List ℕ) where
  pub put_next : (m : ℕ) → record { answer = next m; output = out' } ≡ put out p (some bytes) → PutNext out out' p bytes m
  put_next m q =
      by_lt (length out) (p + length bytes)
      (λ h. absurd (not_both m (ap (λ (x : Written). x.answer) (q ∙ put_full out p bytes h))))
      (λ h.
      let r = q ∙ put_room out p bytes h in
      record {
        end = next_is m (p + length bytes) (ap (λ (x : Written). x.answer) r);
        fits = h;
        is = ap (λ (x : Written). x.output) r;
      })

  pub put_none : record { answer = full; output = out' } ≡ put out p (some bytes) → (length out < p + length bytes) × (out' ≡ out)
  put_none q =
      by_lt (length out) (p + length bytes)
      (λ h. (h, ap (λ (x : Written). x.output) (q ∙ put_full out p bytes h)))
      (λ h. absurd (not_both (p + length bytes) (sym (ap (λ (x : Written). x.answer) (q ∙ put_room out p bytes h)))))

-- ---- the counts

-- An item was put into the output, up to a size, and its prefix has so many bytes.
module _ (out out' : List ℕ) (c : Counts) (i : Item) (size w : ℕ) (there : record { answer = next size; output = out' } ≡ put out c.size (some (item_bytes i)))
    (width : item_prefix i ≡ w) where
  ends : size ≡ c.size + item_size i
  ends = (put_next out out' c.size (item_bytes i) size there).end ∙ ap (λ (k : ℕ). c.size + k) (sym (item_size_is i))

  -- The counts with it don't pass the size.
  pub few_prefixes : Bounded c → c.prefix_bytes + w ≤ size
  few_prefixes b = omega (arith, ends, width, (bounded_more c i b).prefixes)

  pub put_counted : (r : Counts) → r ≡ grown c size (reference_count i) w → ItemPut out out' c i (Ok r)
  put_counted r e =
      record {
        bytes = ap (λ (x : Counts). record { answer = next x.size; output = out' }) e ∙ there;
        counted = e ∙ ap (λ (k : ℕ). grown c k (reference_count i) w) ends ∙ ap (λ (k : ℕ). grown c (c.size + item_size i) (reference_count i) k) (sym width);
      }
