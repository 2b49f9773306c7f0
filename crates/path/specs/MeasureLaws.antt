-- The two measures of a path: what `serialized_length` counts is what the path's atom takes by the documentation, and one byte too many for paths of 512 to
-- 8,191 bytes and of 1,048,576 to 16,777,215.
-- Assumes nothing.
use Rattle.std.specs.Prelude.{ℕ, cond, ltb}

-- The bytes of the documented prefix for n bytes that do not stand for themselves.
abbrev pub documented_prefix : ℕ → ℕ
documented_prefix n = cond (ltb n 64) 1 (cond (ltb n 8192) 2 (cond (ltb n 1048576) 3 (cond (ltb n 134217728) 4 5)))
