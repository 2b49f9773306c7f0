-- Reading an atom or a path: where its bytes lie, or the number of 01's question that gets no.
use Rattle.std.specs.Prelude.{ℕ, zero, suc, ◌+◌, ◌-◌, ◌^◌, cond, ◌&&◌, List, [], ◌∷◌, ltb, leb, eqb, length, get_or, take, drop}
use Rattle.words.specs.BigEndian.{number}
use Rattle.words.specs.Words.{part}
use Rattle.atom.specs.Prefix.{least, mark}

-- The leading ones of a number of k bits.
unfoldable pub ones : ℕ → ℕ → ℕ
ones zero b = 0
ones (suc k) b = cond (ltb b (2 ^ k)) 0 (suc (ones k (b - 2 ^ k)))

-- A prefix: how many bytes it takes and the size that it carries, or the number of the refusal.
pub data Size : Type 0 where
  sized : (offset size : ℕ) → Size
  bad_size : ℕ → Size

-- One byte has to follow, and not one that stands for itself.
abbrev pub one_byte : ℕ → List ℕ → Size
one_byte w [] = bad_size 14
one_byte w (b ∷ bs) = cond (ltb b 0x80) (bad_size 15) (sized w 1)

-- A prefix of w bytes, in the order of `decode_size_with_offset`: at most six bytes, all there, a size below 2^34, the shortest prefix.
unfoldable pub size_of : ℕ → List ℕ → Size
size_of w s =
    let size = number (take w s) - mark w in
    cond (ltb 6 w) (bad_size 14)
    (cond (ltb (length s) w) (bad_size 14)
    (cond (leb (2 ^ 34) size) (bad_size 14)
    (cond (ltb size (least w)) (bad_size 15)
    (cond (eqb size 1) (one_byte w (drop w s)) (sized w size)))))

-- The prefix with which bytes begin: it has as many bytes as the first of them has leading ones.
abbrev pub decode_size : List ℕ → Size
decode_size s = size_of (ones 8 (get_or s 0 0)) s

-- An atom: its bytes are those from `start` up to `end`, and reading goes on at `end`. Or the number of the refusal.
pub data Parse : Type 0 where
  blob : (start end : ℕ) → Parse
  refused : ℕ → Parse

-- The atom after a prefix is whole.
abbrev pub whole : Size → ℕ → Parse
whole (bad_size n) len = refused n
whole (sized w size) len = cond (ltb len (w + size)) (refused 14) (blob w (w + size))

-- The atom with which bytes begin.
unfoldable pub parse : List ℕ → Parse
parse [] = refused 14
parse (b ∷ bs) = cond (ltb b 0x80) (blob 0 1) (whole (decode_size (b ∷ bs)) (length (b ∷ bs)))

abbrev pub moved_by : ℕ → Parse → Parse
moved_by p (blob start end) = blob (p + start) (p + end)
moved_by p (refused n) = refused n

-- The atom that stands at a place of the input.
unfoldable pub parse_at : List ℕ → ℕ → Parse
parse_at input p = moved_by p (parse (drop p input))

-- The part of the input that an atom is; no bytes where it was refused or the input lacks them.
unfoldable pub blob_of : List ℕ → Parse → List ℕ
blob_of input (blob start end) = cond (leb start end && leb end (length input)) (part input start (end - start)) []
blob_of input (refused n) = []
