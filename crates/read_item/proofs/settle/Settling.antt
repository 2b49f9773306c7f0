-- Laws of settling: what comes after the joins is what the definition says.
-- Assumes nothing.
use Rattle.std.specs.Prelude.{Ok, Err}
use Prim.Native.Nat.{ℕ, ◌+◌, ◌-◌, ◌<◌}
use mathlib.Core.Path.{◌≡◌, refl, sym, ap, subst, ◌∙◌}
use mathlib.Core.List.{List, [], ◌∷◌}
use native.Mathlib.Omega.{arith}
use lib.ListN.{length, drop, drop_of_length-le}
use lib.Seq.{drop-cons}
use Rattle.spec_reading.specs.Format.{ParseOp, SExp, Cons, go, at_end, settle}
use Rattle.spec_reading.specs.Store.{store_values}
use Rattle.spec_reading.specs.Sound.{Sound}
use Rattle.words.specs.Words.{at}
use Rattle.read_store.specs.Layout.{OPS, op_of, ops_of}
use Rattle.read_item.specs.declared.settle.Reader.{Reader}
use Rattle.read_item.specs.declared.settle.Item.TheVariants as item
use Rattle.read_item.specs.declared.read_error.ReadError.TheVariants as read_error
use Rattle.read_item.specs.State.{stored_with, Follows, NoJoin, Settled, Next}
use Rattle.read_item.proofs.settle.Joins.{ops_top}

no_ops : (w : List ℕ) (n : ℕ) → n ≡ 0 → ops_of w n ≡ []
no_ops w n e = ap (ops_of w) e ∙ unfold ops_of in refl

next_op : (w : List ℕ) (n : ℕ) → 0 < n → NoJoin (ops_of w n) → ops_of w n ≡ SExp ∷ ops_of w (n - 1)
next_op w n h j = top (op_of (at w (OPS + (n - 1)))) (ops_top w n h)
  where
    top : (o : ParseOp) → ops_of w n ≡ o ∷ ops_of w (n - 1) → ops_of w n ≡ SExp ∷ ops_of w (n - 1)
    top SExp e = e
    top Cons e = absurd (subst NoJoin e j)

module _ (input w p : List ℕ) (r : Reader) (w' p' : List ℕ) (s : Reader) (h : Settled w p r w' p' s) where
  abbrev rest : List ℕ
  rest = drop r.position input

  same_place : s.position ≡ r.position
  same_place = h.onward.follows.position

  pub settle_whole : s.ops ≡ 0 → s.position ≡ length input → Next input w p r w' p' (Ok (item.Whole s))
  settle_whole e end =
      record {
        same = λ a b.
            h.onward.same rest a b ∙ ap (λ (ops : List ParseOp). settle store_values rest ops (stored_with w' p' a b s)) (no_ops w' s.ops e)
            ∙ ap (λ (l : List ℕ). at_end store_values l (stored_with w' p' a b s)) (drop_of_length-le input {i = r.position} (omega (arith, same_place)));
        follows = (h.onward.follows, λ a b q. subst (λ (ops : List ParseOp). Sound r.position ops (stored_with w' p' a b s)) (no_ops w' s.ops e) (h.onward.kept a b q));
      }

  pub settle_left : s.ops ≡ 0 → s.position < length input → Next input w p r w' p' (Err read_error.SerializationError)
  settle_left e more =
      record {
        same = λ a b.
            h.onward.same rest a b ∙ ap (λ (ops : List ParseOp). settle store_values rest ops (stored_with w' p' a b s)) (no_ops w' s.ops e)
            ∙ ap (λ (l : List ℕ). at_end store_values l (stored_with w' p' a b s)) (drop-cons input r.position 0 (omega (arith, same_place)));
        follows = tt;
      }

  abbrev pub next_reader : Reader
  next_reader = record { position = s.position; ops = s.ops - 1; values = s.values; listed = s.listed; pairs = s.pairs; atoms = s.atoms; bytes = s.bytes; ghosts = s.ghosts }

  pub settle_go : 0 < s.ops → Next input w p r w' p' (Ok (item.Go next_reader))
  settle_go more =
      record {
        same = λ a b.
            h.onward.same rest a b ∙ ap (λ (ops : List ParseOp). settle store_values rest ops (stored_with w' p' a b s)) (next_op w' s.ops more h.no_join)
            ∙ ap (λ (n : ℕ). go (record { rest = drop n input; ops = ops_of w' (s.ops - 1); values = stored_with w' p' a b s })) (sym same_place);
        follows = (
          follows_next,
          λ a b q. subst (λ (ops : List ParseOp). Sound r.position ops (stored_with w' p' a b s)) (next_op w' s.ops more h.no_join)
              (h.onward.kept a b q),
          h.onward.lists,
        );
      }
    where
      f : Follows p r p' s
      f = h.onward.follows

      follows_next : Follows p r p' next_reader
      follows_next = record { pairs_in = f.pairs_in; more = f.more; pairs_rest = f.pairs_rest; position = f.position; atoms = f.atoms; bytes = f.bytes }
