-- The counts by which the search recurs are enough: more steps in a pass, or more passes, give the same.
-- Assumes nothing.
use Prim.Native.Nat.{ℕ, zero, suc, ◌+◌, ◌-◌, ◌*◌, ◌≤◌, ◌<◌}
use Rattle.std.specs.Prelude.{◌≡◌, Bool, length}
use Rattle.std.proofs.Math.Path.{refl, sym, ap}
use Rattle.std.proofs.Common.{◌∙◌}
use Rattle.std.proofs.Math.Bool.{true}
use mathlib.Core.List.{List, [], ◌∷◌, ◌++◌, append-nil}
use Rattle.std.proofs.Math.Option.{Option, none}
use native.Mathlib.Omega.{arith}
use Rattle.std.proofs.Math.Seq.{append_snoc}
use Rattle.spec_search.specs.Search.{Trail, at_entry, at_stack, Parents, Stepped, result, stays, dropped, capped, most_visits, Passed, found}
use Rattle.spec_search.specs.Search.{gone, left, step, last_first, goes_on, walk, then, passes, search}
use Rattle.words.specs.Choice.{by_lt}
use Rattle.words.specs.Lists.{All, all_append, all_map}
use Rattle.spec_search.specs.Lists.{size, AtLeast, Longer, shorts}
use Rattle.spec_search.proofs.Lists.{all_last_first, shorts_short, shorts_long, shorts_append, shorts_last_first, shorts_all_long, shorts_le_length}
use Rattle.spec_search.proofs.Induction.{walk_zero, walk_nil, walk_long, walk_short, Grown, step_grown, PassOK, pass_ok}
use Rattle.spec_search.proofs.Sound.{Small, Few, small_step}
use Rattle.spec_search.specs.Enough.{pass}

-- ---- the steps of a pass

module _ (L : ℕ) where
  -- Two walks agree where every path has L bits or more, and both have steps enough.
  abbrev Agree : ℕ → ℕ → (w v : List Trail → List Trail → List ℕ → Passed) → Type 0
  Agree n m w v = (before after : List Trail) (seen : List ℕ) → All (AtLeast L) after → shorts L after ≤ n → shorts L after ≤ m → w before after seen ≡ v before after seen

  pub goes_on_agree : (n m : ℕ) (w v : List Trail → List Trail → List ℕ → Passed) → Agree n m w v → (before behind : List Trail) → All (AtLeast L) behind → shorts L behind ≤ n → shorts L behind ≤ m
      → (s : Stepped) → Grown L s → goes_on w before behind s ≡ goes_on v before behind s
  goes_on_agree n m w v a before behind l f f' (result bits) g = refl
  goes_on_agree n m w v a before behind l f f' (stays p copies seen) g =
      a (before ++ p ∷ []) (behind ++ copies) seen
      (all_append (AtLeast L) behind copies l (all_map (Longer L) (AtLeast L) (λ q h. omega arith) copies g.1))
      (omega (arith, shorts_append L behind copies, shorts_all_long L copies g.1))
      (omega (arith, shorts_append L behind copies, shorts_all_long L copies g.1))
  goes_on_agree n m w v a before behind l f f' (dropped copies seen) g =
      a before (last_first (behind ++ copies)) seen
      (all_last_first (AtLeast L) (behind ++ copies) (all_append (AtLeast L) behind copies l (all_map (Longer L) (AtLeast L) (λ q h. omega arith) copies g)))
      (omega (arith, shorts_last_first L (behind ++ copies), shorts_append L behind copies, shorts_all_long L copies g))
      (omega (arith, shorts_last_first L (behind ++ copies), shorts_append L behind copies, shorts_all_long L copies g))
  goes_on_agree n m w v a before behind l f f' capped g = refl

  module _ (parents : Parents) (stack : List ℕ) where
    pub walk_done : (n : ℕ) (before after : List Trail) (seen : List ℕ) → shorts L after ≤ 0 → walk parents stack n L before after seen ≡ left (before ++ after) seen
    walk_done zero before after seen f = walk_zero parents stack 0 L before after seen
    walk_done (suc n) before [] seen f = rw (append-nil before) (walk_nil parents stack n L before seen)
    walk_done (suc n) before (p ∷ ps) seen f =
        by_lt L (size p)
        (λ h. rw (walk_long parents stack n L before p ps seen h, ← append_snoc before p ps) (walk_done (suc n) (before ++ p ∷ []) ps seen (omega (arith, shorts_long L p ps h))))
        (λ h. absurd (omega (arith, shorts_short L p ps h)))

    pub walk_enough : (n m : ℕ) → Agree n m (walk parents stack n L) (walk parents stack m L)
    walk_enough zero m before after seen l f g = walk_zero parents stack 0 L before after seen ∙ sym (walk_done m before after seen f)
    walk_enough (suc n) zero before after seen l f g = walk_done (suc n) before after seen g ∙ sym (walk_zero parents stack 0 L before after seen)
    walk_enough (suc n) (suc m) before [] seen l f g = walk_nil parents stack n L before seen ∙ sym (walk_nil parents stack m L before seen)
    walk_enough (suc n) (suc m) before (p ∷ ps) seen l f g =
        by_lt L (size p)
        (λ h. rw (walk_long parents stack n L before p ps seen h, walk_long parents stack m L before p ps seen h)
        (walk_enough (suc n) (suc m) (before ++ p ∷ []) ps seen l.1 (omega (arith, shorts_long L p ps h)) (omega (arith, shorts_long L p ps h))))
        (λ h. rw (walk_short parents stack n L before p ps seen h, walk_short parents stack m L before p ps seen h)
        (goes_on_agree n m (walk parents stack n L) (walk parents stack m L) (walk_enough n m) before ps l.1
        (omega (arith, shorts_short L p ps h)) (omega (arith, shorts_short L p ps h)) (step parents stack seen p) (step_grown L parents stack seen p l.0)))

-- ---- the passes

module _ (parents : Parents) (stack : List ℕ) where
  -- More bits than these no path has.
  abbrev pub most_bits : ℕ
  most_bits = most_visits + length stack

  small_size : (seen : List ℕ) (p : Trail) → Small parents stack seen p → size p ≤ most_bits
  unfolding Small
  small_size seen (at_entry bits x pos) h = omega arith
  small_size seen (at_stack bits d) h = omega arith

  passes_over : (n L : ℕ) (list : List Trail) (seen : List ℕ) → All (Small parents stack seen) list → All (AtLeast L) list → most_bits < L → passes parents stack n L list seen ≡ none
  unfolding passes
  passes_over zero L list seen h k o = refl
  passes_over (suc n) L [] seen h k o = refl
  passes_over (suc n) L (p ∷ ps) seen h k o = absurd (omega (arith, small_size seen p h.0, k.0))

  then_agree : (L : ℕ) (f g : List Trail → List ℕ → Option (List Bool))
      → ((list : List Trail) (seen : List ℕ) → All (Small parents stack seen) list → All (AtLeast (suc L)) list → f list seen ≡ g list seen)
      → (r : Passed) → PassOK (Small parents stack) (Few parents stack) L r → then f r ≡ then g r
  then_agree L f g a (found bits) h = refl
  then_agree L f g a gone h = refl
  then_agree L f g a (left list seen) h = a list seen h.0 h.1

  pub passes_enough : (n m L : ℕ) (list : List Trail) (seen : List ℕ) → All (Small parents stack seen) list → All (AtLeast L) list
      → most_bits < n + L → most_bits < m + L → passes parents stack n L list seen ≡ passes parents stack m L list seen
  unfolding passes
  passes_enough zero m L list seen h k o o' = sym (passes_over m L list seen h k (omega arith))
  passes_enough (suc n) zero L list seen h k o o' = passes_over (suc n) L list seen h k (omega arith)
  passes_enough (suc n) (suc m) L [] seen h k o o' = refl
  passes_enough (suc n) (suc m) L (p ∷ ps) seen h k o o' =
      then_agree L (passes parents stack n (suc L)) (passes parents stack m (suc L))
      (λ list seen h' k'. passes_enough n m (suc L) list seen h' k' (omega arith) (omega arith))
      (walk parents stack (length (p ∷ ps)) L [] (p ∷ ps) seen)
      (pass_ok (Small parents stack) (Few parents stack) parents stack L (λ L l seen p s h. small_step parents stack seen p h) L (omega arith) (p ∷ ps) seen h k)

  -- A limit that is lowered, but not below the most bits that a path can have, gives the same.
  pub search_enough : (len e limit : ℕ) → most_bits ≤ limit → most_bits ≤ 8 * (len - 1)
      → search parents stack len e ≡ passes parents stack (suc limit) 0 (at_entry [] e true ∷ []) []
  unfolding search Small
  search_enough len e limit h k = passes_enough (suc (8 * (len - 1))) (suc limit) 0 (at_entry [] e true ∷ []) [] (omega arith, tt) (omega arith, tt) (omega arith) (omega arith)

-- ---- pass L as equations, with no count

module _ (parents : Parents) (stack : List ℕ) (L : ℕ) where
  -- At the list's end the pass is over.
  pub pass_end : (before : List Trail) (seen : List ℕ) → (pass parents stack L) before [] seen ≡ left before seen
  unfolding pass
  pass_end before seen = walk_zero parents stack 0 L before [] seen ∙ ap (λ (l : List Trail). left l seen) (append-nil before)

  -- A path of more than L bits is passed over.
  pub pass_long : (before : List Trail) (p : Trail) (ps : List Trail) (seen : List ℕ) → All (AtLeast L) (p ∷ ps) → L < size p
      → (pass parents stack L) before (p ∷ ps) seen ≡ (pass parents stack L) (before ++ p ∷ []) ps seen
  unfolding pass
  pass_long before p ps seen l h =
      walk_long parents stack (length ps) L before p ps seen h
      ∙ walk_enough L parents stack (suc (length ps)) (length ps) (before ++ p ∷ []) ps seen l.1 (omega (arith, shorts_le_length L ps)) (shorts_le_length L ps)

  -- A path of L bits is stepped: the walk goes on behind it, or, where it was dropped, with the list's last path in its slot.
  pub pass_step : (before : List Trail) (p : Trail) (ps : List Trail) (seen : List ℕ) → All (AtLeast L) (p ∷ ps) → size p ≤ L
      → (pass parents stack L) before (p ∷ ps) seen ≡ goes_on (pass parents stack L) before ps (step parents stack seen p)
  unfolding pass
  pass_step before p ps seen l h =
      walk_short parents stack (length ps) L before p ps seen h
      ∙ goes_on_agree L (length ps) (length ps) (walk parents stack (length ps) L) (pass parents stack L)
      (λ b a s k f f'. walk_enough L parents stack (length ps) (length a) b a s k f (shorts_le_length L a))
      before ps l.1 (shorts_le_length L ps) (shorts_le_length L ps) (step parents stack seen p) (step_grown L parents stack seen p l.0)

-- The passes of the search, each from the first slot on.
pub passes_step : (parents : Parents) (stack : List ℕ) (n L : ℕ) (p : Trail) (ps : List Trail) (seen : List ℕ)
    → passes parents stack (suc n) L (p ∷ ps) seen ≡ then (passes parents stack n (suc L)) (pass parents stack L [] (p ∷ ps) seen)
unfolding passes pass
passes_step parents stack n L p ps seen = refl
