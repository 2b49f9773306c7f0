-- A reader turns an input down with 14, 15 or 16.
-- Assumes nothing.
use Prim.Native.Nat.{ℕ, zero, suc, ◌+◌, ◌-◌, ◌^◌, ◌≤◌}
use Rattle.std.specs.Prelude.{◌≡◌, List, [], ◌∷◌, ltb, leb, eqb, length, take, drop}
use Rattle.std.proofs.Math.Path.{subst}
use Rattle.std.proofs.Math.Option.{Option, none, some}
use Rattle.std.proofs.Common.{arith}
use Rattle.words.specs.Choice.{by_cond}
use Rattle.words.specs.BigEndian.{number}
use Rattle.atom.specs.Prefix.{least, mark}
use Rattle.atom.specs.Parse.{Size, sized, bad_size, one_byte, size_of, decode_size, Parse, blob, refused, whole as whole_atom, parse, blob_of}
use Rattle.path.specs.Bytes.{read_path}
use Rattle.spec_reading.specs.Format.{Values, ParseOp, SExp, Cons, At, Step, go, whole, stop, Read, accepted, turned_down}
use Rattle.spec_reading.specs.Format.{settle, pushed, atom_item, path_item, next_item, step, then, run, read}

abbrev pub Refusal : ℕ → Type 0
Refusal n = (14 ≤ n) × (n ≤ 16)

abbrev OfSize : Size → Type 0
OfSize (sized w n) = Unit {0}
OfSize (bad_size n) = Refusal n

abbrev OfParse : Parse → Type 0
OfParse (blob start end) = Unit {0}
OfParse (refused n) = Refusal n

abbrev OfStep : {S : Type 0} → Step S → Type 0
OfStep (go a) = Unit {0}
OfStep (whole s) = Unit {0}
OfStep (stop n) = Refusal n

abbrev OfRead : {S : Type 0} → Read S → Type 0
OfRead (accepted s) = Unit {0}
OfRead (turned_down n) = Refusal n

fourteen : Refusal 14
fourteen = (omega arith, omega arith)

fifteen : Refusal 15
fifteen = (omega arith, omega arith)

sixteen : Refusal 16
sixteen = (omega arith, omega arith)

one_byte_refusal : (w : ℕ) (s : List ℕ) → OfSize (one_byte w s)
one_byte_refusal w [] = fourteen
one_byte_refusal w (b ∷ bs) = by_cond OfSize (ltb b 0x80) (bad_size 15) (sized w 1) (λ e. fifteen) (λ e. tt)

size_refusal : (w : ℕ) (s : List ℕ) → OfSize (size_of w s)
unfolding size_of
size_refusal w s =
    let size = number (take w s) - mark w in
    by_cond OfSize (ltb 6 w) _ _ (λ e. fourteen)
    (λ e. by_cond OfSize (ltb (length s) w) _ _ (λ e. fourteen)
    (λ e. by_cond OfSize (leb (2 ^ 34) size) _ _ (λ e. fourteen)
    (λ e. by_cond OfSize (ltb size (least w)) _ _ (λ e. fifteen)
    (λ e. by_cond OfSize (eqb size 1) _ _ (λ e. one_byte_refusal w (drop w s)) (λ e. tt)))))

whole_refusal : (z : Size) (len : ℕ) → OfSize z → OfParse (whole_atom z len)
whole_refusal (bad_size n) len h = h
whole_refusal (sized w n) len h = by_cond OfParse (ltb len (w + n)) (refused 14) (blob w (w + n)) (λ e. fourteen) (λ e. tt)

parse_refusal : (s : List ℕ) → OfParse (parse s)
unfolding parse
parse_refusal [] = fourteen
parse_refusal (b ∷ bs) = by_cond OfParse (ltb b 0x80) (blob 0 1) _ (λ e. tt) (λ e. whole_refusal (decode_size (b ∷ bs)) (length (b ∷ bs)) (size_refusal _ (b ∷ bs)))

module _ {S : Type 0} (keep : Values S) where
  settle_refusal : (rest : List ℕ) (ops : List ParseOp) (s : S) → OfStep (settle keep rest ops s)
  settle_refusal [] [] s = tt
  settle_refusal (b ∷ rest) [] s = fourteen
  settle_refusal rest (SExp ∷ ops) s = tt
  settle_refusal rest (Cons ∷ ops) s = settle_refusal rest ops (keep.join s)

  pushed_refusal : (o : Option S) (rest : List ℕ) (ops : List ParseOp) → OfStep (pushed keep o rest ops)
  pushed_refusal none rest ops = sixteen
  pushed_refusal (some s) rest ops = settle_refusal rest ops s

  atom_refusal : (p : Parse) (s : List ℕ) (ops : List ParseOp) (v : S) → OfParse p → OfStep (atom_item keep p s ops v)
  atom_refusal (refused n) s ops v h = h
  atom_refusal (blob start end) s ops v h = settle_refusal (drop end s) ops (keep.push_atom (blob_of s (blob start end)) v)

  path_refusal : (p : Parse) (s : List ℕ) (ops : List ParseOp) (v : S) → OfParse p → OfStep (path_item keep p s ops v)
  path_refusal (refused n) s ops v h = h
  path_refusal (blob start end) s ops v h = pushed_refusal (keep.push_path (read_path (blob_of s (blob start end))) v) (drop end s) ops

  next_refusal : (s : List ℕ) (ops : List ParseOp) (v : S) → OfStep (next_item keep s ops v)
  next_refusal [] ops v = fourteen
  next_refusal (b ∷ s) ops v =
      by_cond OfStep (eqb b 0xff) _ _ (λ e. tt)
      (λ e. by_cond OfStep (eqb b 0xfe) _ _ (λ e. path_refusal (parse s) s ops v (parse_refusal s)) (λ e. atom_refusal (parse (b ∷ s)) (b ∷ s) ops v (parse_refusal (b ∷ s))))

  then_refusal : (x : Step S) (f : At S → Read S) → OfStep x → ((a : At S) → OfRead (f a)) → OfRead (then keep x f)
  then_refusal (go a) f h k = k a
  then_refusal (whole s) f h k = tt
  then_refusal (stop n) f h k = h

  run_refusal : (n : ℕ) (a : At S) → OfRead (run keep n a)
  unfolding run step
  run_refusal zero a = fourteen
  run_refusal (suc n) a = then_refusal (step keep a) (λ b. run keep n b) (next_refusal a.rest a.ops a.values) (λ b. run_refusal n b)

  pub read_refusal : (input : List ℕ) (s : S) (n : ℕ) → read keep input s ≡ turned_down n → Refusal n
  unfolding read
  read_refusal input s n e = subst OfRead e (run_refusal (length input) (record { rest = input; ops = []; values = s }))
