-- The loop: what holds before each turn, and that it ends.
-- Assumes nothing.
use Prim.Native.Nat.{ℕ, ◌<◌}
use mathlib.Core.Path.{◌≡◌, sym, ◌∙◌, subst}
use mathlib.Core.List.{List}
use lib.ListN.{length}
use Rattle.path.specs.declared.Measure.{Measure}
use Rattle.cache_entries.specs.Meaning.{Whole}
use Rattle.write_loop.specs.declared.write_turn.Next.{Next}
use Rattle.write_place.specs.State.{AtomPlaces}
use Rattle.write_loop.specs.Effects.{ahead, Fine, Turns, Falls}
use Rattle.write_loop.proofs.write_turn.Turning.{turns_then}

-- From `first`, the loop has come to `next`.
pub record Looping (m : Measure) (file w₀ out₀ : List ℕ) (first : Next) (w out : List ℕ) (next : Next) : Type 0 where
  pub whole : Whole w₀
  pub places : AtomPlaces file w₀
  pub long : length w ≡ length w₀
  pub space : length out ≡ length out₀
  pub turns : Turns m file w₀ w out₀ out first next

-- What the next turn may rely on.
module _ {m : Measure} {file w₀ out₀ : List ℕ} {first : Next} {w out : List ℕ} {next b : Next} (q : next ≡ b) (k : Looping m file w₀ out₀ first w out next) where
  pub fine_now : Fine w out b
  fine_now = subst (λ (y : Next). Fine w out y) q k.turns.fine

  pub loop_ends : Turns m file w₀ w out₀ out first b
  loop_ends = subst (λ (y : Next). Turns m file w₀ w out₀ out first y) q k.turns

  module _ {w' out' : List ℕ} where
    -- The turn after it, and where it leads on.
    pub loop_goes : {r : Next} → Turns m file w w' out out' b r → Turns m file w₀ w' out₀ out' first r
    loop_goes t = turns_then k.whole k.long k.space loop_ends t

    pub loop_turns : {r : Next} → length w' ≡ length w → length out' ≡ length out → Turns m file w w' out out' b r
        → Looping m file w₀ out₀ first w' out' r
    loop_turns lw lo t =
        record { whole = k.whole; places = k.places; long = lw ∙ k.long; space = lo ∙ k.space; turns = loop_goes t }

-- The loop falls.
pub loop_falls : {next b : Next} (r : Next) (out out' : List ℕ) → next ≡ b → length out' ≡ length out → Falls (length out) b r
    → ahead (length out') r < ahead (length out) next
loop_falls {next} {b} r out out' q lo f =
    subst (λ (n : ℕ). ahead n r < ahead (length out) next) (sym lo)
    (subst (λ (y : Next). ahead (length out) r < ahead (length out) y) (sym q) f)
