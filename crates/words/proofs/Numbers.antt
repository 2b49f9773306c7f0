-- Laws of the loop that reads bytes into a number: what one turn adds, and a bound.
-- Assumes nothing.
use Rattle.std.specs.Prelude.{ℕ, ◌+◌, ◌*◌, ◌^◌, ◌≤◌, ◌<◌, ◌≡◌, List, length, get_or, take}
use Rattle.std.proofs.Common.{sym, ◌∙◌, ap, arith, add-one, pow-suc}
use Rattle.std.proofs.Math.Nat.{pow-le-pow_right}
use Rattle.std.proofs.Math.Seq.{take-suc}
use Rattle.words.specs.BigEndian.{number_after, number_more}

-- one more byte
pub number_turn : (bs : List ℕ) (i first value : ℕ) → i < length bs → get_or bs i 0 < 256
    → (value ≡ number_after first (take i bs)) × (value < 256 * 256 ^ i)
    → (value * 256 + get_or bs i 0 ≡ number_after first (take (i + 1) bs)) × (value * 256 + get_or bs i 0 < 256 * 256 ^ (i + 1))
number_turn bs i first value h b w =
    (ap (λ (v : ℕ). v * 256 + get_or bs i 0) w.0 ∙ sym (rw (add-one i, take-suc bs i 0 h, number_more)), rw (add-one i) (omega (arith, pow-suc 256 i)))

-- what keeps the number within 64 bits
pub pow_bound : (i : ℕ) → i ≤ 5 → 256 ^ i ≤ 256 ^ 5
pow_bound i h = pow-le-pow_right {n = 256} (omega arith) h
