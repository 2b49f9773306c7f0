-- Reading goes on item by item, with no bound on their number: each item takes a byte at least, so `run` never comes to its bound first.
use Prim.Native.Nat.{ℕ, zero, suc, ◌≤◌, ◌<◌}
use Rattle.std.specs.Prelude.{◌≡◌, Bool, true, false, cond, List, [], ◌∷◌, eqb, length, drop}
use Rattle.std.proofs.Math.Path.{refl, sym}
use Rattle.std.proofs.Common.{◌∙◌, arith, length-drop}
use Rattle.std.proofs.Math.Option.{Option, none, some}
use Rattle.atom.specs.Parse.{Parse, blob, refused, parse, blob_of}
use Rattle.path.specs.Bytes.{read_path}
use Rattle.spec_reading.specs.Format.{Values, ParseOp, SExp, Cons, At, Step, go, whole, stop, Read, turned_down, at_end, settle, pushed, atom_item, path_item, next_item, step, then, run}
use Rattle.spec_reading.proofs.Blobs.{blob_within}

-- Fewer than n bytes are left, where reading goes on.
abbrev pub Shorter : {S : Type 0} → ℕ → Step S → Type 0
Shorter n (go a) = length a.rest < n
Shorter n (whole s) = Unit {0}
Shorter n (stop k) = Unit {0}

module _ {S : Type 0} (keep : Values S) where
  end_shorter : (n : ℕ) (rest : List ℕ) (s : S) → Shorter n (at_end keep rest s)
  end_shorter n [] s = tt
  end_shorter n (b ∷ rest) s = tt

  settle_shorter : (n : ℕ) (rest : List ℕ) (ops : List ParseOp) (s : S) → length rest < n → Shorter n (settle keep rest ops s)
  settle_shorter n rest [] s l = end_shorter n rest s
  settle_shorter n rest (SExp ∷ ops) s l = l
  settle_shorter n rest (Cons ∷ ops) s l = settle_shorter n rest ops (keep.join s) l

  pushed_shorter : (n : ℕ) (rest : List ℕ) (ops : List ParseOp) (o : Option S) → length rest < n → Shorter n (pushed keep o rest ops)
  pushed_shorter n rest ops none l = tt
  pushed_shorter n rest ops (some s) l = settle_shorter n rest ops s l

  atom_shorter : (bytes : List ℕ) (ops : List ParseOp) (s : S) (p : Parse) → parse bytes ≡ p → Shorter (length bytes) (atom_item keep p bytes ops s)
  atom_shorter bytes ops s (refused n) e = tt
  atom_shorter bytes ops s (blob start end) e =
      let w = blob_within bytes start end e in
      settle_shorter (length bytes) (drop end bytes) ops (keep.push_atom (blob_of bytes (blob start end)) s) (omega (arith, length-drop end bytes, w.some_byte, w.inside))

  path_shorter : (bytes : List ℕ) (ops : List ParseOp) (s : S) (p : Parse) → Shorter (suc (length bytes)) (path_item keep p bytes ops s)
  path_shorter bytes ops s (refused n) = tt
  path_shorter bytes ops s (blob start end) =
      pushed_shorter (suc (length bytes)) (drop end bytes) ops (keep.push_path (read_path (blob_of bytes (blob start end))) s) (omega (arith, length-drop end bytes))

  next_shorter : (rest : List ℕ) (ops : List ParseOp) (s : S) → Shorter (length rest) (next_item keep rest ops s)
  next_shorter [] ops s = tt
  next_shorter (b ∷ rest) ops s = choose (eqb b 0xff) (eqb b 0xfe)
    where
      choose : (f g : Bool)
          → Shorter (suc (length rest))
          (cond f (go (record { rest = rest; ops = SExp ∷ Cons ∷ ops; values = s }))
          (cond g (path_item keep (parse rest) rest ops s) (atom_item keep (parse (b ∷ rest)) (b ∷ rest) ops s)))
      choose true g = omega arith
      choose false true = path_shorter rest ops s (parse rest)
      choose false false = atom_shorter (b ∷ rest) ops s (parse (b ∷ rest)) refl

  pub step_shorter : (a : At S) → Shorter (length a.rest) (step keep a)
  unfolding step
  step_shorter a = next_shorter a.rest a.ops a.values

  then_enough : (n : ℕ) (f g : At S → Read S) → ((b : At S) → length b.rest < n → f b ≡ g b) → (x : Step S) → Shorter n x → then keep x f ≡ then keep x g
  then_enough n f g h (go b) l = h b l
  then_enough n f g h (whole s) l = refl
  then_enough n f g h (stop k) l = refl

  -- No bytes are left.
  next_none : (rest : List ℕ) (ops : List ParseOp) (s : S) (f : At S → Read S) → length rest ≤ 0 → then keep (next_item keep rest ops s) f ≡ turned_down 14
  next_none [] ops s f l = refl
  next_none (b ∷ rest) ops s f l = absurd (omega arith)

  -- Any bound from the number of bytes up gives the same.
  pub run_enough : (m n : ℕ) (a : At S) → length a.rest ≤ m → length a.rest ≤ n → run keep m a ≡ run keep n a
  unfolding run step
  run_enough zero zero a l k = refl
  run_enough zero (suc n) a l k = sym (next_none a.rest a.ops a.values (λ b. run keep n b) l)
  run_enough (suc m) zero a l k = next_none a.rest a.ops a.values (λ b. run keep m b) k
  run_enough (suc m) (suc n) a l k =
      then_enough (length a.rest) (λ b. run keep m b) (λ b. run keep n b) (λ b s. run_enough m n b (omega arith) (omega arith)) (step keep a) (step_shorter a)

  -- Reading from here on, to the end.
  abbrev pub onward : At S → Read S
  onward a = run keep (length a.rest) a

  -- An item, and reading on from there.
  pub onward_step : (a : At S) → onward a ≡ then keep (step keep a) onward
  unfolding run
  onward_step a =
      run_enough (length a.rest) (suc (length a.rest)) a (omega arith) (omega arith)
      ∙ then_enough (length a.rest) (λ b. run keep (length a.rest) b) onward (λ b s. run_enough (length a.rest) (length b.rest) b (omega arith) (omega arith))
      (step keep a) (step_shorter a)
