-- A turn of a pass, said of one list and a cursor: over a path that is too long, at the end, and after a step.
-- Assumes nothing.
use Prim.Native.Nat.{ℕ, suc, ◌+◌, ◌≤◌, ◌<◌}
use mathlib.Core.Path.{◌≡◌, refl, sym, ap, subst, ◌∙◌}
use mathlib.Core.Bool.{Bool}
use mathlib.Core.List.{List, [], ◌∷◌, ◌++◌, append_assoc}
use native.Mathlib.Omega.{arith}
use native.Mathlib.Numerals.{add-one}
use lib.ListN.{length, get_or, set, take, drop, length-append, length-set, drop_of_length-le}
use lib.Seq.{drop-cons, split_at, set_split, take_at, drop_at, take_all, take-suc, length-take-le, append_snoc}
use Rattle.spec_search.specs.Search.{Trail, Parents, result, stays, dropped, capped, found, gone, left, step, last_first, goes_on, in_front}
use Rattle.words.specs.Lists.{All, all_append, all_map}
use Rattle.spec_search.specs.Lists.{size, AtLeast, Longer, shorts}
use Rattle.spec_search.proofs.Lists.{all_last_first, shorts_short, shorts_long, shorts_append, shorts_last_first, shorts_all_long}
use Rattle.spec_search.proofs.Induction.{Grown, step_grown}
use Rattle.spec_search.specs.Enough.{pass}
use Rattle.spec_search.proofs.Enough.{pass_end, pass_long, pass_step}
use Rattle.spec_search.specs.Flat.{swap_remove}
use Rattle.spec_search.proofs.Flat.{drop_list}
use Rattle.search_list.specs.Cursor.{goes, Mid, ahead}

length_last_first : (ps : List Trail) → length (last_first ps) ≡ length ps
length_last_first [] = refl
length_last_first (p ∷ ps) = go (last_first ps) (length_last_first ps)
  where
    go : (qs : List Trail) → length qs ≡ length ps → length (in_front p qs) ≡ suc (length ps)
    go [] h = ap suc h
    go (q ∷ qs) h = ap suc h

-- At the list's end the pass is over.
pub at_end : (parents : Parents) (stack : List ℕ) (L : ℕ) (list : List Trail) (c : ℕ) (seen : List ℕ) → c ≡ length list
    → goes parents stack L list c seen ≡ left list seen
unfolding goes
at_end parents stack L list c seen h =
    let b : length list ≤ c = omega arith in
    rw (drop_of_length-le list b, take_all c list b) (pass_end parents stack L list seen)

pub all_longer : {L : ℕ} {list : List Trail} {c : ℕ} → c ≡ length list → Mid L list c → All (Longer L) list
all_longer {L} {list} {c} h m = rw (take_all c list (omega arith)) at m.longer

-- Path p stands at the cursor.
pub record Facing (L : ℕ) (list : List Trail) (c : ℕ) (p : Trail) : Type 0 where
  pub inside : c < length list
  pub is : get_or list c p ≡ p
  pub mid : Mid L list c

module _ {L : ℕ} {list : List Trail} {c : ℕ} {p : Trail} (o : Facing L list c p) where
  before : List Trail
  before = take c list

  behind : List Trail
  behind = drop (suc c) list

  from_c : drop c list ≡ p ∷ behind
  unfolding behind
  from_c = drop-cons list c p o.inside ∙ ap (λ (q : Trail). q ∷ drop (suc c) list) o.is

  whole : list ≡ before ++ p ∷ behind
  unfolding before behind
  whole = split_at list c p o.inside ∙ ap (λ (q : Trail). take c list ++ q ∷ drop (suc c) list) o.is

  long_before : length before ≡ c
  unfolding before
  long_before = length-take-le c list (omega (arith, o.inside))

  long_behind : length list ≡ c + suc (length behind)
  long_behind = ap length whole ∙ length-append before (p ∷ behind) ∙ ap (λ (k : ℕ). k + suc (length behind)) long_before

  least : All (AtLeast L) (p ∷ behind)
  least = subst (All (AtLeast L)) from_c o.mid.least

  here_least : L ≤ size p
  here_least = least.0

  -- ---- a path of more than L bits is passed over

  next_take : take (c + 1) list ≡ before ++ p ∷ []
  unfolding before
  next_take = ap (λ (k : ℕ). take k list) (add-one c) ∙ take-suc list c p o.inside ∙ ap (λ (q : Trail). take c list ++ q ∷ []) o.is

  next_drop : drop (c + 1) list ≡ behind
  unfolding behind
  next_drop = ap (λ (k : ℕ). drop k list) (add-one c)

  pub over : (parents : Parents) (stack seen : List ℕ) → L < size p → goes parents stack L list c seen ≡ goes parents stack L list (c + 1) seen
  unfolding goes before behind
  over parents stack seen l = rw (next_take, next_drop, from_c) (pass_long parents stack L before p behind seen least l)

  pub over_mid : L < size p → Mid L list (c + 1)
  unfolding before
  over_mid l = record {
    within = omega (arith, o.inside);
    longer = rw next_take (all_append (Longer L) before (p ∷ []) o.mid.longer (l, tt));
    least = rw next_drop least.1;
  }

  pub over_less : L < size p → ahead L list (c + 1) < ahead L list c
  unfolding ahead
  over_less l = rw (next_drop, from_c) (omega (arith, shorts_long L p behind l))

  -- ---- a path of L bits is stepped

  module _ (parents : Parents) (stack seen : List ℕ) where
    grown : Grown L (step parents stack seen p)
    grown = step_grown L parents stack seen p here_least

    stepped : size p ≤ L → goes parents stack L list c seen ≡ goes_on (pass parents stack L) before behind (step parents stack seen p)
    unfolding goes before behind
    stepped l = rw from_c (pass_step parents stack L before p behind seen least l)

    pub is_result : {bits : List Bool} → size p ≤ L → step parents stack seen p ≡ result bits → goes parents stack L list c seen ≡ found bits
    is_result l s = stepped l ∙ ap (goes_on (pass parents stack L) before behind) s

    pub is_capped : size p ≤ L → step parents stack seen p ≡ capped → goes parents stack L list c seen ≡ gone
    is_capped l s = stepped l ∙ ap (goes_on (pass parents stack L) before behind) s

    module _ (l : size p ≤ L) {q : Trail} {copies : List Trail} {seen' : List ℕ} (s : step parents stack seen p ≡ stays q copies seen') where
      g_stays : Longer L q × All (Longer L) copies
      g_stays = subst (Grown L) s grown

      stays_list : set list c q ++ copies ≡ before ++ q ∷ [] ++ (behind ++ copies)
      unfolding before behind
      stays_list =
          rw (set_split list c q o.inside, append_assoc (take c list) (q ∷ drop (suc c) list) copies, append_snoc (take c list) q (drop (suc c) list ++ copies))

      stays_at : length (before ++ q ∷ []) ≡ c + 1
      stays_at = length-append before (q ∷ []) ∙ ap (λ (k : ℕ). k + 1) long_before

      stays_take : take (c + 1) (set list c q ++ copies) ≡ before ++ q ∷ []
      stays_take = ap (take (c + 1)) stays_list ∙ take_at (before ++ q ∷ []) (behind ++ copies) (c + 1) stays_at

      stays_drop : drop (c + 1) (set list c q ++ copies) ≡ behind ++ copies
      stays_drop = ap (drop (c + 1)) stays_list ∙ drop_at (before ++ q ∷ []) (behind ++ copies) (c + 1) stays_at

      pub stays_goes : goes parents stack L list c seen ≡ goes parents stack L (set list c q ++ copies) (c + 1) seen'
      unfolding goes
      stays_goes = stepped l ∙ ap (goes_on (pass parents stack L) before behind) s ∙ rw (stays_take, stays_drop)

      pub stays_mid : Mid L (set list c q ++ copies) (c + 1)
      unfolding before
      stays_mid = record {
        within = omega (arith, o.inside, length-append (set list c q) copies, length-set list c q);
        longer = rw stays_take (all_append (Longer L) before (q ∷ []) o.mid.longer (g_stays.0, tt));
        least = rw stays_drop (all_append (AtLeast L) behind copies least.1 (all_map (Longer L) (AtLeast L) (λ q h. omega arith) copies g_stays.1));
      }

      pub stays_less : length (set list c q ++ copies) < 4096 → ahead L (set list c q ++ copies) (c + 1) < ahead L list c
      unfolding ahead
      stays_less f = rw (stays_drop, from_c) (omega (arith, shorts_append L behind copies, shorts_all_long L copies g_stays.1, shorts_short L p behind l))

    module _ (l : size p ≤ L) {copies : List Trail} {seen' : List ℕ} (s : step parents stack seen p ≡ dropped copies seen') where
      g_dropped : All (Longer L) copies
      g_dropped = subst (Grown L) s grown

      dropped_list : swap_remove (list ++ copies) c p ≡ before ++ last_first (behind ++ copies)
      dropped_list =
          subst (λ (k : ℕ). swap_remove (list ++ copies) k p ≡ before ++ last_first (behind ++ copies)) long_before
          (subst (λ (x : List Trail). swap_remove (x ++ copies) (length before) p ≡ before ++ last_first (behind ++ copies)) (sym whole) (drop_list before p behind copies))

      dropped_take : take c (swap_remove (list ++ copies) c p) ≡ before
      dropped_take = ap (take c) dropped_list ∙ take_at before (last_first (behind ++ copies)) c long_before

      dropped_drop : drop c (swap_remove (list ++ copies) c p) ≡ last_first (behind ++ copies)
      dropped_drop = ap (drop c) dropped_list ∙ drop_at before (last_first (behind ++ copies)) c long_before

      dropped_length : suc (length (swap_remove (list ++ copies) c p)) ≡ length list + length copies
      dropped_length = ap (λ (x : List Trail). suc (length x)) dropped_list
          ∙ omega (arith, length-append before (last_first (behind ++ copies)), length_last_first (behind ++ copies), length-append behind copies, long_before, long_behind)

      pub dropped_goes : goes parents stack L list c seen ≡ goes parents stack L (swap_remove (list ++ copies) c p) c seen'
      unfolding goes
      dropped_goes = stepped l ∙ ap (goes_on (pass parents stack L) before behind) s
          ∙ ap (λ (x : List Trail). pass parents stack L before x seen') (sym dropped_drop)
          ∙ ap (λ (x : List Trail). pass parents stack L x (drop c (swap_remove (list ++ copies) c p)) seen') (sym dropped_take)

      pub dropped_mid : Mid L (swap_remove (list ++ copies) c p) c
      unfolding before
      dropped_mid = record {
        within = omega (arith, dropped_length, long_behind);
        longer = subst (All (Longer L)) (sym dropped_take) o.mid.longer;
        least = subst (All (AtLeast L)) (sym dropped_drop)
            (all_last_first (AtLeast L) (behind ++ copies) (all_append (AtLeast L) behind copies least.1 (all_map (Longer L) (AtLeast L) (λ q h. omega arith) copies g_dropped)));
      }

      pub dropped_less : length (swap_remove (list ++ copies) c p) < 4096 → ahead L (swap_remove (list ++ copies) c p) c < ahead L list c
      unfolding ahead
      dropped_less f =
          let d : shorts L (drop c (swap_remove (list ++ copies) c p)) ≡ shorts L behind =
          ap (shorts L) dropped_drop ∙ shorts_last_first L (behind ++ copies) ∙ shorts_append L behind copies
          ∙ omega (arith, shorts_all_long L copies g_dropped) in
          let d' : shorts L (drop c list) ≡ suc (shorts L behind) = ap (shorts L) from_c ∙ shorts_short L p behind l in
          omega arith
