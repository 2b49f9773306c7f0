-- The bytes that a path's atom is counted at, before it is used. 01, path_builder.rs: "`serialized_length` counts prefix 3 for 512 to
-- 1,048,575 path bytes, and 5 for 1,048,576 to 16,777,215; the documentation has 2 up to 8,191 and 4 up to 134,217,727. The Rust's ranges
-- are ported. Its `80` for a full byte is decimal; a search path starts with a set bit, so there it makes no difference."
-- 02, L6: "The trade's other writers have moved to the documented prefix lengths. The Rust's ranges count one byte too many for paths of 512 to 8,191 bytes."
-- Assumes nothing.
use Rattle.std.specs.Prelude.{ℕ, ◌+◌, ◌%◌, ltb, leb, eqb, length, get_or, Bool, cond, ◌&&◌, List}
use Rattle.atom.specs.Write.{serialized_length}
use Rattle.path.specs.Bytes.{path_bytes}
use Rattle.path.specs.declared.Measure.{Measure}
use Rattle.path.specs.declared.Measure.TheVariants.{Counted, Documented}

-- The bytes that `serialized_length` counts for a path of n bytes; `full` says that the bits fill them and the first byte is at least 80, decimal.
abbrev pub counted_bytes : (full : Bool) → ℕ → ℕ
counted_bytes full n =
    cond (eqb n 0) 1 (cond (eqb n 1) (cond full 2 1) (cond (ltb n 64) (1 + n) (cond (ltb n 512) (2 + n) (cond (ltb n 1048576) (3 + n)
    (cond (ltb n 16777216) (5 + n) (cond (ltb n 134217728) (4 + n) (5 + n)))))))

abbrev pub counted : List Bool → ℕ
counted bits = counted_bytes (eqb (length bits % 8) 0 && leb 80 (get_or (path_bytes bits) 0 0)) (length (path_bytes bits))

-- The bytes that a path's atom takes by the documentation.
abbrev pub documented : List Bool → ℕ
documented bits = serialized_length (path_bytes bits)

abbrev pub measure_of : Measure → List Bool → ℕ
measure_of Counted = counted
measure_of Documented = documented
