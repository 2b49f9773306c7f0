-- The first bit of a path that the search gives is set; so what it is measured at follows from the number of its bits. And what find_path answers.
-- Assumes nothing.
use mathlib.Core.Path.{◌≡◌, sym, ap, subst, ◌∙◌}
use mathlib.Core.Bool.{Bool, true, cond}
use mathlib.Core.List.{List, [], ◌∷◌, ◌++◌}
use Prim.Native.Nat.{ℕ, ◌+◌, ◌/◌, ◌%◌, ◌^◌, ◌≤◌, ◌<◌}
use native.Mathlib.Omega.{arith}
use lib.ListN.{length, length-append}
use lib.Dec.{ltb, eqb}
use borrow.Author.Tests.{lt-ltb, le-ltb, eq-eqb, ne_eqb}
use Rattle.words.specs.Choice.{by_lt, cond_true, cond_false}
use Rattle.spec_search.specs.Search.{used}
use Rattle.spec_search.specs.PathBits.{Ends}
use Rattle.spec_search.proofs.PathBits.{search_ends}
use Rattle.path.specs.Bytes.{path_bytes}
use Rattle.path.proofs.BytesLaws.{length_path_bytes}
use Rattle.path.specs.declared.Measure.{Measure}
use Rattle.path.specs.declared.Measure.TheVariants.{Counted, Documented}
use Rattle.path.specs.Measure.{counted, counted_bytes, documented, measure_of}
use Rattle.path.specs.MeasureLaws.{documented_prefix}
use Rattle.path.proofs.MeasureLaws.{counted_is, documented_is}
use Rattle.path_builder.specs.Measured.{documented_bytes, measured_bytes}
use Rattle.std.specs.Prelude.{Some, None}
use Rattle.search_list.specs.State.{parents_of_all, path_at}
use Rattle.search_passes.specs.Finds.{Finds}
use Rattle.search_find.specs.Answers.{FoundPath}
use Rattle.work_layout.specs.Rows.{stack_of}

-- ---- what a path is measured at

counted_same : (bits : List Bool) → Ends bits → counted_bytes (eqb (length bits % 8) 0) ((length bits + 7) / 8) ≡ counted bits
counted_same bits h =
    ap (counted_bytes (eqb (length bits % 8) 0)) (sym (length_path_bytes bits))
    ∙ subst (λ (b : List Bool). counted_bytes (eqb (length b % 8) 0) (length (path_bytes b)) ≡ counted b) (sym h.ends) (counted_is h.steps)

-- Below eight bits the byte stands for itself, and eight fill it.
documented_bits : (n : ℕ) → 1 ≤ n → documented_bytes (eqb (n % 8) 0) ((n + 7) / 8) ≡ cond (ltb n 8) 1 (documented_prefix ((n + 7) / 8) + (n + 7) / 8)
documented_bits n one =
    by_lt n 8
    (λ h. rw (lt-ltb n 8 h, eq-eqb ((n + 7) / 8) 1 (omega arith), ne_eqb (n % 8) 0 (λ e. omega arith)))
    (λ h. by_lt n 9
    (λ k. rw (le-ltb n 8 h, eq-eqb ((n + 7) / 8) 1 (omega arith), eq-eqb (n % 8) 0 (omega arith)))
    (λ k. rw (le-ltb n 8 h, ne_eqb ((n + 7) / 8) 1 (λ e. omega arith))))

documented_same : (bits : List Bool) → Ends bits → length bits ≤ 8192 → documented_bytes (eqb (length bits % 8) 0) ((length bits + 7) / 8) ≡ documented bits
documented_same bits h few =
    let one : 1 ≤ length bits = omega (arith, ap length h.ends, length-append h.steps (true ∷ [])) in
    documented_bits (length bits) one
    ∙ ap (λ (k : ℕ). cond (ltb (length bits) 8) 1 (documented_prefix k + k)) (sym (length_path_bytes bits))
    ∙ sym (subst (λ (b : List Bool). documented b ≡ cond (ltb (length b) 8) 1 (documented_prefix (length (path_bytes b)) + length (path_bytes b))) (sym h.ends)
    (documented_is h.steps (short h.ends)))
  where
    short : bits ≡ h.steps ++ true ∷ [] → length (path_bytes (h.steps ++ true ∷ [])) < 2 ^ 34
    short e = omega (arith, few, ap length e, length_path_bytes (h.steps ++ true ∷ []))

-- By either measure the number of bits says it.
pub measured_is : (m : Measure) (bits : List Bool) → Ends bits → length bits ≤ 8192
    → measured_bytes m (eqb (length bits % 8) 0) ((length bits + 7) / 8) ≡ measure_of m bits
measured_is Counted bits h few = counted_same bits h
measured_is Documented bits h few = documented_same bits h few

-- ---- the whole

module _ {w w' : List ℕ} {d len e : ℕ} where
  pub path_none : {m : Measure} → Finds w w' d len e None → FoundPath m w w' d len e None
  path_none {m} f = record { answer = ap (used (measure_of m) len) f.answer; usable = tt; kept = f.kept }

  module _ {i : ℕ} (f : Finds w w' d len e (Some i)) where
    pub path_ends : Ends (path_at w' i)
    path_ends = search_ends (parents_of_all w) (stack_of w d) len e (path_at w' i) f.answer

    module _ {m : Measure} {c : ℕ} (is : c ≡ measure_of m (path_at w' i)) where
      pub path_long : len ≤ c → FoundPath m w w' d len e None
      path_long h =
          record {
            answer = ap (used (measure_of m) len) f.answer ∙ cond_false _ _ _ (ap (λ (q : ℕ). ltb q len) (sym is) ∙ le-ltb c len h);
            usable = tt;
            kept = f.kept;
          }

      pub path_used : c < len → FoundPath m w w' d len e (Some i)
      path_used h =
          record {
            answer = ap (used (measure_of m) len) f.answer ∙ cond_true _ _ _ (ap (λ (q : ℕ). ltb q len) (sym is) ∙ lt-ltb c len h);
            usable = f.usable;
            kept = f.kept;
          }
