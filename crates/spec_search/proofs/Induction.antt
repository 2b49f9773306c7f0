-- What the step of a path keeps, which is asked of its cases, the search keeps: an invariant of the paths of the working list, under the entries seen so far. On the way it is shown that the
-- paths go in lock step: where pass L begins, every path has L bits or more, the pass steps those that have L, and all have more where it ends.
-- Assumes nothing.
use Prim.Native.Nat.{ℕ, zero, suc, ◌+◌, ◌-◌, ◌*◌, ◌≤◌, ◌<◌}
use Rattle.std.specs.Prelude.{◌≡◌, Bool, true, false, cond, length, ltb}
use Rattle.std.proofs.Math.Path.{refl}
use Rattle.std.proofs.Common.{subst, arith, lt-ltb, le-ltb, ltb-true}
use mathlib.Core.List.{List, [], ◌∷◌, ◌++◌}
use Rattle.std.proofs.Math.Option.{Option, none, some}
use Rattle.spec_search.specs.Search.{Trail, at_entry, at_stack, Parents, Stepped, result, stays, dropped, capped, member, distance, most_visits}
use Rattle.spec_search.specs.Search.{upward, sideward, moves, visit, Passed, found, gone, left, step, last_first, goes_on, walk, then, passes}
use Rattle.spec_search.specs.Search.{search}
use Rattle.words.specs.Choice.{by_cond, by_lt}
use Rattle.words.specs.Lists.{All, all_append, all_each, all_map}
use Rattle.spec_search.specs.Lists.{size, AtLeast, Longer, shorts}
use Rattle.spec_search.proofs.Lists.{all_last_first, shorts_short, shorts_long, shorts_append, shorts_last_first}
use Rattle.spec_search.proofs.Lists.{shorts_all_long, shorts_le_length, long_of_no_shorts}

-- ---- the walk's equations

module _ (parents : Parents) (stack : List ℕ) (n L : ℕ) (before : List Trail) where
  pub walk_zero : (after : List Trail) (seen : List ℕ) → walk parents stack 0 L before after seen ≡ left (before ++ after) seen
  unfolding walk
  walk_zero after seen = refl

  pub walk_nil : (seen : List ℕ) → walk parents stack (suc n) L before [] seen ≡ left before seen
  unfolding walk
  walk_nil seen = refl

  pub walk_long : (p : Trail) (ps : List Trail) (seen : List ℕ) → L < size p
      → walk parents stack (suc n) L before (p ∷ ps) seen ≡ walk parents stack (suc n) L (before ++ p ∷ []) ps seen
  unfolding walk
  walk_long p ps seen h = rw (lt-ltb L (size p) h, walk)

  pub walk_short : (p : Trail) (ps : List Trail) (seen : List ℕ) → size p ≤ L
      → walk parents stack (suc n) L before (p ∷ ps) seen ≡ goes_on (walk parents stack n L) before ps (step parents stack seen p)
  unfolding walk
  walk_short p ps seen h = rw (le-ltb L (size p) h, walk)

-- ---- a step, by its cases

module _ (I : List ℕ → Trail → Type 0) (R : List Bool → Type 0) where
  -- The invariant stays true of a path that is not touched.
  abbrev pub Later : List ℕ → List ℕ → Type 0
  Later seen seen' = (q : Trail) → I seen q → I seen' q

  abbrev pub StepOK : List ℕ → Stepped → Type 0
  StepOK seen (result bits) = R bits
  StepOK seen (stays p copies seen') = I seen' p × All (I seen') copies × Later seen seen'
  StepOK seen (dropped copies seen') = All (I seen') copies × Later seen seen'
  StepOK seen capped = Unit {0}

module _ (parents : Parents) (stack : List ℕ) (J I : List ℕ → Trail → Type 0) (R : List Bool → Type 0) where
  -- From J of the path that is stepped: R of a result, and I of the paths that come of it; and I stays true where an entry is seen.
  pub record Steps : Type 0 where
    pub arrives : (seen : List ℕ) (bits : List Bool) → J seen (at_stack bits 0) → R bits
    pub nearer : (seen : List ℕ) (bits : List Bool) (d : ℕ) → J seen (at_stack bits (suc d)) → I seen (at_stack (true ∷ bits) d)
    pub upwards : (seen : List ℕ) (bits : List Bool) (x : ℕ) (pos : Bool) → length seen < most_visits → J seen (at_entry bits x pos)
        → All (λ (q : ℕ × Bool). I (x ∷ seen) (at_entry (pos ∷ bits) q.0 q.1)) (parents x)
    pub sidewards : (seen : List ℕ) (bits : List Bool) (x : ℕ) (pos : Bool) → length seen < most_visits → J seen (at_entry bits x pos)
        → (d : ℕ) → distance x stack ≡ some d → I (x ∷ seen) (at_stack (false ∷ pos ∷ bits) d)
    pub later : (seen : List ℕ) (x : ℕ) → length seen < most_visits → Later I R seen (x ∷ seen)

  upward_ok : (seen seen' : List ℕ) (bits : List Bool) (qs : List (ℕ × Bool)) → All (λ (q : ℕ × Bool). I seen' (at_entry bits q.0 q.1)) qs
      → All (I seen') (upward seen bits qs)
  upward_ok seen seen' bits [] h = tt
  upward_ok seen seen' bits (q ∷ qs) h =
      by_cond (All (I seen')) (member q.0 seen) (upward seen bits qs) (at_entry bits q.0 q.1 ∷ upward seen bits qs)
      (λ c. upward_ok seen seen' bits qs h.1) (λ c. (h.0, upward_ok seen seen' bits qs h.1))

  sideward_ok : (seen : List ℕ) (bits : List Bool) (o : Option ℕ) → ((d : ℕ) → o ≡ some d → I seen (at_stack (false ∷ bits) d)) → All (I seen) (sideward bits o)
  sideward_ok seen bits none h = tt
  sideward_ok seen bits (some d) h = (h d refl, tt)

  moves_ok : (seen seen' : List ℕ) (ps qs : List Trail) → Later I R seen seen' → All (I seen') ps → All (I seen') qs → StepOK I R seen (moves ps qs seen')
  moves_ok seen seen' [] qs f h k = (k, f)
  moves_ok seen seen' (p ∷ ps) qs f h k = (h.0, all_append (I seen') ps qs h.1 k, f)

  pub step_ok : Steps → (seen : List ℕ) (p : Trail) → J seen p → StepOK I R seen (step parents stack seen p)
  step_ok s seen (at_stack bits zero) h = s.arrives seen bits h
  step_ok s seen (at_stack bits (suc d)) h = (s.nearer seen bits d h, tt, λ q k. k)
  step_ok s seen (at_entry bits x pos) h =
      by_cond (StepOK I R seen) (member x seen) (dropped [] seen) (cond (ltb (length seen) most_visits) (visit parents stack seen bits x pos) capped)
      (λ c. (tt, λ q k. k))
      (λ c. by_cond (StepOK I R seen) (ltb (length seen) most_visits) (visit parents stack seen bits x pos) capped (λ c'. visit_ok (ltb-true _ _ c')) (λ c'. tt))
    where
      visit_ok : length seen < most_visits → StepOK I R seen (visit parents stack seen bits x pos)
      visit_ok l =
          moves_ok seen (x ∷ seen) (upward (x ∷ seen) (pos ∷ bits) (parents x)) (sideward (pos ∷ bits) (distance x stack)) (s.later seen x l)
          (upward_ok (x ∷ seen) (x ∷ seen) (pos ∷ bits) (parents x) (s.upwards seen bits x pos l h))
          (sideward_ok (x ∷ seen) (pos ∷ bits) (distance x stack) (s.sidewards seen bits x pos l h))

-- ---- a step makes paths that have more bits

module _ (L : ℕ) where
  abbrev pub Grown : Stepped → Type 0
  Grown (result bits) = Unit {0}
  Grown (stays p copies seen) = Longer L p × All (Longer L) copies
  Grown (dropped copies seen) = All (Longer L) copies
  Grown capped = Unit {0}

  abbrev grown_steps : (parents : Parents) (stack : List ℕ) → Steps parents stack (λ seen. AtLeast L) (λ seen. Longer L) (λ bits. Unit {0})
  grown_steps parents stack =
      record {
        arrives = λ seen bits h. tt;
        nearer = λ seen bits d h. omega arith;
        upwards = λ seen bits x pos l h. all_each (λ (q : ℕ × Bool). Longer L (at_entry (pos ∷ bits) q.0 q.1)) (λ q. omega arith) (parents x);
        sidewards = λ seen bits x pos l h d k. omega arith;
        later = λ seen x l q h. h;
      }

  pub step_grown : (parents : Parents) (stack seen : List ℕ) (p : Trail) → AtLeast L p → Grown (step parents stack seen p)
  step_grown parents stack seen p h =
      go (step parents stack seen p) (step_ok parents stack (λ seen. AtLeast L) (λ seen. Longer L) (λ bits. Unit {0}) (grown_steps parents stack) seen p h)
    where
      go : (s : Stepped) → StepOK (λ seen. Longer L) (λ bits. Unit {0}) seen s → Grown s
      go (result bits) k = tt
      go (stays q copies seen') k = (k.0, k.1)
      go (dropped copies seen') k = k.0
      go capped k = tt

-- ---- the invariant through a pass and the passes

module _ (I : List ℕ → Trail → Type 0) (R : List Bool → Type 0) where
  abbrev pub PassOK : ℕ → Passed → Type 0
  PassOK L (found bits) = R bits
  PassOK L gone = Unit {0}
  PassOK L (left list seen) = All (I seen) list × All (Longer L) list

  abbrev pub AnswerOK : Option (List Bool) → Type 0
  AnswerOK none = Unit {0}
  AnswerOK (some bits) = R bits

  -- Where pass L stands, with n steps left.
  pub record Midway (n L : ℕ) (before after : List Trail) (seen : List ℕ) : Type 0 where
    pub before_ok : All (I seen) before
    pub after_ok : All (I seen) after
    pub before_long : All (Longer L) before
    pub after_least : All (AtLeast L) after
    pub few : shorts L after ≤ n

  abbrev pub WalkOK : ℕ → ℕ → (List Trail → List Trail → List ℕ → Passed) → Type 0
  WalkOK n L w = (before after : List Trail) (seen : List ℕ) → Midway n L before after seen → PassOK L (w before after seen)

  goes_on_ok : (n L : ℕ) (w : List Trail → List Trail → List ℕ → Passed) → WalkOK n L w → (before behind : List Trail) (seen : List ℕ)
      → Midway n L before behind seen → (s : Stepped) → Grown L s → StepOK I R seen s → PassOK L (goes_on w before behind s)
  goes_on_ok n L w ok before behind seen m (result bits) g h = h
  goes_on_ok n L w ok before behind seen m (stays p copies seen') g h =
      ok (before ++ p ∷ []) (behind ++ copies) seen' record {
        before_ok = all_append (I seen') before (p ∷ []) (all_map (I seen) (I seen') h.2 before m.before_ok) (h.0, tt);
        after_ok = all_append (I seen') behind copies (all_map (I seen) (I seen') h.2 behind m.after_ok) h.1;
        before_long = all_append (Longer L) before (p ∷ []) m.before_long (g.0, tt);
        after_least = all_append (AtLeast L) behind copies m.after_least (all_map (Longer L) (AtLeast L) (λ q k. omega arith) copies g.1);
        few = omega (arith, shorts_append L behind copies, shorts_all_long L copies g.1, m.few);
      }
  goes_on_ok n L w ok before behind seen m (dropped copies seen') g h =
      ok before (last_first (behind ++ copies)) seen' record {
        before_ok = all_map (I seen) (I seen') h.1 before m.before_ok;
        after_ok = all_last_first (I seen') (behind ++ copies) (all_append (I seen') behind copies (all_map (I seen) (I seen') h.1 behind m.after_ok) h.0);
        before_long = m.before_long;
        after_least = all_last_first (AtLeast L) (behind ++ copies) (all_append (AtLeast L) behind copies m.after_least (all_map (Longer L) (AtLeast L) (λ q k. omega arith) copies g));
        few = omega (arith, shorts_last_first L (behind ++ copies), shorts_append L behind copies, shorts_all_long L copies g, m.few);
      }
  goes_on_ok n L w ok before behind seen m capped g h = tt

  module _ (parents : Parents) (stack : List ℕ) (top : ℕ)
      (steps : (L : ℕ) → L ≤ top → (seen : List ℕ) (p : Trail) → size p ≡ L → I seen p → StepOK I R seen (step parents stack seen p)) where
    pub walk_ok : (n L : ℕ) → L ≤ top → WalkOK n L (walk parents stack n L)
    walk_ok zero L l before after seen m =
        rw (walk_zero parents stack 0 L before after seen)
        (all_append (I seen) before after m.before_ok m.after_ok, all_append (Longer L) before after m.before_long (long_of_no_shorts L after m.few))
    walk_ok (suc n) L l before [] seen m = rw (walk_nil parents stack n L before seen) (m.before_ok, m.before_long)
    walk_ok (suc n) L l before (p ∷ ps) seen m =
        by_lt L (size p)
        (λ h. rw (walk_long parents stack n L before p ps seen h)
        (walk_ok (suc n) L l (before ++ p ∷ []) ps seen (record {
          before_ok = all_append (I seen) before (p ∷ []) m.before_ok (m.after_ok.0, tt);
          after_ok = m.after_ok.1;
          before_long = all_append (Longer L) before (p ∷ []) m.before_long (h, tt);
          after_least = m.after_least.1;
          few = omega (arith, shorts_long L p ps h, m.few);
        })))
        (λ h. rw (walk_short parents stack n L before p ps seen h)
        (goes_on_ok n L (walk parents stack n L) (walk_ok n L l) before ps seen
        (record {
          before_ok = m.before_ok;
          after_ok = m.after_ok.1;
          before_long = m.before_long;
          after_least = m.after_least.1;
          few = omega (arith, shorts_short L p ps h, m.few);
        })
        (step parents stack seen p)
        (step_grown L parents stack seen p m.after_least.0)
        (steps L l seen p (omega (arith, m.after_least.0)) m.after_ok.0)))

    then_ok : (L : ℕ) (next : List Trail → List ℕ → Option (List Bool))
        → ((list : List Trail) (seen : List ℕ) → All (I seen) list → All (AtLeast (suc L)) list → AnswerOK (next list seen))
        → (r : Passed) → PassOK L r → AnswerOK (then next r)
    then_ok L next ok (found bits) h = h
    then_ok L next ok gone h = tt
    then_ok L next ok (left list seen) h = ok list seen h.0 h.1

    -- A whole pass.
    pub pass_ok : (L : ℕ) → L ≤ top → (list : List Trail) (seen : List ℕ) → All (I seen) list → All (AtLeast L) list
        → PassOK L (walk parents stack (length list) L [] list seen)
    pass_ok L l list seen h k =
        walk_ok (length list) L l [] list seen (record { before_ok = tt; after_ok = h; before_long = tt; after_least = k; few = shorts_le_length L list })

    pub passes_ok : (n L : ℕ) → n + L ≡ suc top → (list : List Trail) (seen : List ℕ) → All (I seen) list → All (AtLeast L) list
        → AnswerOK (passes parents stack n L list seen)
    unfolding passes
    passes_ok zero L s list seen h k = tt
    passes_ok (suc n) L s [] seen h k = tt
    passes_ok (suc n) L s (p ∷ ps) seen h k =
        then_ok L (passes parents stack n (suc L)) (passes_ok n (suc L) (omega arith)) (walk parents stack (length (p ∷ ps)) L [] (p ∷ ps) seen)
        (pass_ok L (omega arith) (p ∷ ps) seen h k)

-- What holds of the first path and is kept by every step holds of the result.
pub search_ok : (I : List ℕ → Trail → Type 0) (R : List Bool → Type 0) (parents : Parents) (stack : List ℕ) (len e : ℕ) (bits : List Bool)
    → ((L : ℕ) → L ≤ 8 * (len - 1) → (seen : List ℕ) (p : Trail) → size p ≡ L → I seen p → StepOK I R seen (step parents stack seen p))
    → I [] (at_entry [] e true) → search parents stack len e ≡ some bits → R bits
unfolding search
search_ok I R parents stack len e bits steps h q =
    subst (AnswerOK I R) q
    (passes_ok I R parents stack (8 * (len - 1)) steps (suc (8 * (len - 1))) 0 (omega arith) (at_entry [] e true ∷ []) [] (h, tt) (omega arith, tt))
