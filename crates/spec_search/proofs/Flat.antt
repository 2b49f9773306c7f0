-- The walk of a pass once more, as one list and a cursor, the way the Rust goes; and that `walk` is the same.
-- Assumes nothing.
use Prim.Native.Nat.{ℕ, zero, suc, ◌≤◌, ◌<◌}
use Rattle.std.specs.Prelude.{◌≡◌, refl, Bool, true, false, List, [], ◌∷◌, ◌++◌, length, set}
use Rattle.std.proofs.Common.{sym, ap, append_assoc, append-nil, arith, length-append}
use Rattle.std.proofs.Math.Option.{Option, none, some}
use Rattle.std.proofs.Math.ListN.{get_elem?}
use Rattle.std.proofs.Math.Seq.{append_snoc, set-append_seam}
use borrow.Author.Tests.{lt-ltb, le-ltb}
use Rattle.spec_search.specs.Search.{Trail, Parents, Stepped, result, stays, dropped, capped, Passed, found, gone, left, step, in_front, last_first, long, goes_on, walk}
use Rattle.words.specs.Choice.{by_lt}
use Rattle.words.specs.Lists.{All, all_append, all_map}
use Rattle.spec_search.specs.Lists.{size, AtLeast, Longer, shorts}
use Rattle.spec_search.proofs.Lists.{all_last_first, shorts_short, shorts_long, shorts_append, shorts_last_first, shorts_all_long}
use Rattle.spec_search.proofs.Induction.{walk_zero, walk_nil, walk_long, walk_short, Grown, step_grown}
use Rattle.spec_search.specs.Flat.{init, last, swap_remove}

-- `loop` is the way on from a list, a cursor and the entries seen.
abbrev pub flat_on : (loop : List Trail → ℕ → List ℕ → Passed) → List Trail → ℕ → Trail → Stepped → Passed
flat_on loop list c p (result bits) = found bits
flat_on loop list c p (stays p' copies seen) = loop (set list c p' ++ copies) (suc c) seen
flat_on loop list c p (dropped copies seen) = loop (swap_remove (list ++ copies) c p) c seen
flat_on loop list c p capped = gone

module _ (parents : Parents) (stack : List ℕ) where
  -- At a slot: a path of more than L bits is passed over.
  abbrev pub flat_slot : (loop : List Trail → ℕ → List ℕ → Passed) → Bool → List Trail → ℕ → List ℕ → Trail → Passed
  flat_slot loop true list c seen p = loop list (suc c) seen
  flat_slot loop false list c seen p = flat_on loop list c p (step parents stack seen p)

  -- At the cursor: past the list's end the pass is over.
  abbrev pub flat_at : (loop : List Trail → ℕ → List ℕ → Passed) → ℕ → List Trail → ℕ → List ℕ → Option Trail → Passed
  flat_at loop L list c seen none = left list seen
  flat_at loop L list c seen (some p) = flat_slot loop (long L p) list c seen p

  -- Pass L, from the cursor c on, in at most `fuel` turns.
  unfoldable pub flat : (fuel : ℕ) → (L : ℕ) → List Trail → (c : ℕ) → List ℕ → Passed
  flat zero L list c seen = gone
  flat (suc fuel) L list c seen = flat_at (λ l k s. flat fuel L l k s) L list c seen (get_elem? list c)

-- ---- lists

pub at_seam : (xs : List Trail) (p : Trail) (ps : List Trail) → get_elem? (xs ++ p ∷ ps) (length xs) ≡ some p
at_seam [] p ps = refl
at_seam (x ∷ xs) p ps = at_seam xs p ps

at_end : (xs : List Trail) → get_elem? xs (length xs) ≡ none
at_end [] = refl
at_end (x ∷ xs) = at_end xs

pub length_snoc : (xs : List Trail) (p : Trail) → length (xs ++ p ∷ []) ≡ suc (length xs)
length_snoc xs p = simp length-append (omega arith)

pub last_seam : (d : Trail) (xs : List Trail) (p : Trail) (ps : List Trail) → last d (xs ++ p ∷ ps) ≡ last p ps
last_seam d [] p ps = refl
last_seam d (x ∷ xs) p ps = last_seam x xs p ps

pub init_seam : (xs : List Trail) (p : Trail) (ps : List Trail) → init (xs ++ p ∷ ps) ≡ xs ++ init (p ∷ ps)
init_seam [] p ps = refl
init_seam (x ∷ []) p ps = refl
init_seam (x ∷ y ∷ xs) p ps = ap (λ (l : List Trail). x ∷ l) (init_seam (y ∷ xs) p ps)

last_first_is : (p : Trail) (ps : List Trail) → last_first (p ∷ ps) ≡ last p ps ∷ init (p ∷ ps)
last_first_is p [] = refl
last_first_is p (q ∷ qs) = ap (in_front p) (last_first_is q qs)

slot_taken : (p : Trail) (ps : List Trail) → init (last p ps ∷ ps) ≡ last_first ps
slot_taken p [] = refl
slot_taken p (q ∷ qs) = sym (last_first_is q qs)

pub swap_seam : (xs : List Trail) (p : Trail) (ps : List Trail) → swap_remove (xs ++ p ∷ ps) (length xs) p ≡ xs ++ last_first ps
swap_seam xs p ps =
    rw (last_seam p xs p ps, set-append_seam xs p ps (last p ps), init_seam xs (last p ps) ps, slot_taken p ps)

pub stay_list : (xs : List Trail) (p q : Trail) (ps qs : List Trail) → set (xs ++ p ∷ ps) (length xs) q ++ qs ≡ xs ++ q ∷ [] ++ (ps ++ qs)
stay_list xs p q ps qs = rw (set-append_seam xs p ps q, append_assoc xs (q ∷ ps) qs, append_snoc xs q (ps ++ qs))

pub drop_list : (xs : List Trail) (p : Trail) (ps qs : List Trail) → swap_remove (xs ++ p ∷ ps ++ qs) (length xs) p ≡ xs ++ last_first (ps ++ qs)
drop_list xs p ps qs = rw (append_assoc xs (p ∷ ps) qs, swap_seam xs p (ps ++ qs))

-- ---- the two walks

module _ (parents : Parents) (stack : List ℕ) (L : ℕ) where
  -- With turns enough, the walk of list and cursor ends with r.
  abbrev Flatly : List Trail → ℕ → List ℕ → Passed → Type 0
  Flatly list c seen r = (k : ℕ) × ((f : ℕ) → k ≤ f → flat parents stack f L list c seen ≡ r)

  flat_pass : (before : List Trail) (p : Trail) (ps : List Trail) (seen : List ℕ) (r : Passed) → L < size p
      → Flatly (before ++ p ∷ ps) (suc (length before)) seen r → Flatly (before ++ p ∷ ps) (length before) seen r
  unfolding flat
  flat_pass before p ps seen r h x = (suc x.0, go)
    where
      go : (f : ℕ) → suc x.0 ≤ f → flat parents stack f L (before ++ p ∷ ps) (length before) seen ≡ r
      go zero l = absurd (omega arith)
      go (suc f) l = rw (at_seam before p ps, lt-ltb L (size p) h) (x.1 f (omega arith))

  flat_end : (before : List Trail) (seen : List ℕ) → Flatly before (length before) seen (left before seen)
  unfolding flat
  flat_end before seen = (1, go)
    where
      go : (f : ℕ) → 1 ≤ f → flat parents stack f L before (length before) seen ≡ left before seen
      go zero l = absurd (omega arith)
      go (suc f) l = rw (at_end before)

  -- A walk ends as that of list and cursor does.
  abbrev Follows : ℕ → (List Trail → List Trail → List ℕ → Passed) → Type 0
  Follows n w = (before after : List Trail) (seen : List ℕ) → All (AtLeast L) after → shorts L after ≤ n → Flatly (before ++ after) (length before) seen (w before after seen)

  flat_goes_on : (n : ℕ) (w : List Trail → List Trail → List ℕ → Passed) → Follows n w → (before : List Trail) (p : Trail) (ps : List Trail)
      → All (AtLeast L) ps → shorts L ps ≤ n → (s : Stepped) → Grown L s
      → (k : ℕ) × ((f : ℕ) → k ≤ f → flat_on (flat parents stack f L) (before ++ p ∷ ps) (length before) p s ≡ goes_on w before ps s)
  flat_goes_on n w a before p ps l h (result bits) g = (0, λ f q. refl)
  flat_goes_on n w a before p ps l h (stays p' copies seen) g =
      let x : Flatly (before ++ p' ∷ [] ++ (ps ++ copies)) (length (before ++ p' ∷ [])) seen (w (before ++ p' ∷ []) (ps ++ copies) seen) =
      a (before ++ p' ∷ []) (ps ++ copies) seen
      (all_append (AtLeast L) ps copies l (all_map (Longer L) (AtLeast L) (λ q h. omega arith) copies g.1))
      (omega (arith, shorts_append L ps copies, shorts_all_long L copies g.1)) in
      (x.0, λ f q. rw (stay_list before p p' ps copies, ← length_snoc before p') (x.1 f q))
  flat_goes_on n w a before p ps l h (dropped copies seen) g =
      let x : Flatly (before ++ last_first (ps ++ copies)) (length before) seen (w before (last_first (ps ++ copies)) seen) =
      a before (last_first (ps ++ copies)) seen
      (all_last_first (AtLeast L) (ps ++ copies) (all_append (AtLeast L) ps copies l (all_map (Longer L) (AtLeast L) (λ q h. omega arith) copies g)))
      (omega (arith, shorts_last_first L (ps ++ copies), shorts_append L ps copies, shorts_all_long L copies g)) in
      (x.0, λ f q. rw (drop_list before p ps copies) (x.1 f q))
  flat_goes_on n w a before p ps l h capped g = (0, λ f q. refl)

  flat_step : (n : ℕ) (w : List Trail → List Trail → List ℕ → Passed) → Follows n w → (before : List Trail) (p : Trail) (ps : List Trail) (seen : List ℕ)
      → size p ≤ L → All (AtLeast L) (p ∷ ps) → shorts L ps ≤ n → Flatly (before ++ p ∷ ps) (length before) seen (goes_on w before ps (step parents stack seen p))
  unfolding flat
  flat_step n w a before p ps seen s l h = (suc x.0, go)
    where
      x : (k : ℕ) × ((f : ℕ) → k ≤ f → flat_on (flat parents stack f L) (before ++ p ∷ ps) (length before) p (step parents stack seen p) ≡ goes_on w before ps (step parents stack seen p))
      x = flat_goes_on n w a before p ps l.1 h (step parents stack seen p) (step_grown L parents stack seen p l.0)

      go : (f : ℕ) → suc x.0 ≤ f → flat parents stack f L (before ++ p ∷ ps) (length before) seen ≡ goes_on w before ps (step parents stack seen p)
      go zero q = absurd (omega arith)
      go (suc f) q = rw (at_seam before p ps, le-ltb L (size p) s) (x.1 f (omega arith))

  -- Where all paths have more than L bits, they are passed over to the end.
  flat_over : (after before : List Trail) (seen : List ℕ) → shorts L after ≤ 0 → Flatly (before ++ after) (length before) seen (left (before ++ after) seen)
  flat_over [] before seen h = rw (append-nil before) (flat_end before seen)
  flat_over (p ∷ ps) before seen h =
      by_lt L (size p)
      (λ k. flat_pass before p ps seen (left (before ++ p ∷ ps) seen) k
      (rw (append_snoc before p ps, length_snoc before p) at (flat_over ps (before ++ p ∷ []) seen (omega (arith, shorts_long L p ps k)))))
      (λ k. absurd (omega (arith, shorts_short L p ps k)))

  -- A turn of `walk` at a path that it passes over, and at one that it steps. Each has its own law: written into `walk_flat` they take seconds.
  walk_flat_long : (n : ℕ) (before : List Trail) (p : Trail) (ps : List Trail) (seen : List ℕ) → L < size p
      → Flatly (before ++ p ∷ [] ++ ps) (length (before ++ p ∷ [])) seen (walk parents stack (suc n) L (before ++ p ∷ []) ps seen)
      → Flatly (before ++ p ∷ ps) (length before) seen (walk parents stack (suc n) L before (p ∷ ps) seen)
  walk_flat_long n before p ps seen k x =
      rw (walk_long parents stack n L before p ps seen k)
      (flat_pass before p ps seen (walk parents stack (suc n) L (before ++ p ∷ []) ps seen) k (rw (append_snoc before p ps, length_snoc before p) at x))

  walk_flat_short : (n : ℕ) → Follows n (walk parents stack n L) → (before : List Trail) (p : Trail) (ps : List Trail) (seen : List ℕ) → size p ≤ L
      → All (AtLeast L) (p ∷ ps) → shorts L (p ∷ ps) ≤ suc n
      → Flatly (before ++ p ∷ ps) (length before) seen (walk parents stack (suc n) L before (p ∷ ps) seen)
  walk_flat_short n a before p ps seen k l h =
      rw (walk_short parents stack n L before p ps seen k)
      (flat_step n (walk parents stack n L) a before p ps seen k l (omega (arith, shorts_short L p ps k)))

  -- THE WALKS AGREE: with turns enough, the walk of list and cursor ends as `walk` does.
  pub walk_flat : (n : ℕ) → Follows n (walk parents stack n L)
  walk_flat zero before after seen l h = rw (walk_zero parents stack 0 L before after seen) (flat_over after before seen h)
  walk_flat (suc n) before [] seen l h = rw (walk_nil parents stack n L before seen, append-nil before) (flat_end before seen)
  walk_flat (suc n) before (p ∷ ps) seen l h =
      by_lt L (size p)
      (λ k. walk_flat_long n before p ps seen k (walk_flat (suc n) (before ++ p ∷ []) ps seen l.1 (omega (arith, shorts_long L p ps k))))
      (λ k. walk_flat_short n (walk_flat n) before p ps seen k l h)
