-- `file_parts::session_file::number_at` meets its contract: at most four bytes make a number of 32 bits.
-- Assumes nothing.
use Prim.Native.Nat.{ℕ, ◌+◌, ◌^◌, ◌≤◌, ◌<◌}
use mathlib.Core.List.{List}
use native.Mathlib.Omega.{arith}
use native.Mathlib.Nat.{pow-le-pow_right}
use lib.ListN.{length, drop}
use Rattle.words.specs.BigEndian.{number, number_bound}
use Rattle.words.specs.Lists.{Bytes, all_of, all_take, all_drop}
use Rattle.words.specs.Words.{part}
use Rattle.words.proofs.Words.{part_length}
use Rattle.file_parts.proofs.session_file.number_at.Goals as goal

four_bytes : (input : List ℕ) (p n : ℕ) → Bytes input → p + n ≤ length input → n ≤ 4 → number (part input p n) < 2 ^ 32
unfolding part
four_bytes input p n bytes h k =
    let b : number (part input p n) < 256 ^ length (part input p n) =
    number_bound (part input p n) (all_take (λ (x : ℕ). x < 256) n (drop p input) (all_drop (λ (x : ℕ). x < 256) p input bytes)) in
    omega (arith, rw (part_length input p n h) at b, pow-le-pow_right {n = 256} (omega arith) {i = n} {j = 4} k)

pub overflow_cast-result : goal.overflow_cast-result
overflow_cast-result c =
    let a = c.args in
    let bytes = all_of (λ (x : ℕ). x < 256) a.file.now 0 (λ i l. omega (arith, c.type_inv.file i)) in
    omega (arith, c.number_at.ensures, four_bytes a.file.now a.at a.count bytes (omega arith) (omega arith))
