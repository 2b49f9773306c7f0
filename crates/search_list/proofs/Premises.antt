-- What the cache ensures is what the search needs.
-- Assumes nothing.
use mathlib.Core.Path.{◌≡◌, refl, ap}
use mathlib.Core.List.{List, []}
use Prim.Native.Nat.{ℕ, zero, suc, ◌+◌}
use Rattle.words.specs.Words.{at}
use Rattle.work_layout.specs.Layout.{COUNTS}
use Rattle.work_layout.specs.Rows.{Sound, all_counts}
use Rattle.search_list.specs.State.{count_at}
use Rattle.search_list.specs.Steps.{unseen, Links}

pub sound_links : (w : List ℕ) → Sound w → Links w
sound_links w s = record { long = s.long; used = s.used; counts = s.counts; links = s.links }

-- Where nothing is seen, the unseen parents are all of them.
pub unseen_all : (w : List ℕ) (n : ℕ) → unseen (count_at w) [] n ≡ all_counts w n
unfolding unseen all_counts
unseen_all w zero = refl
unseen_all w (suc n) = ap (λ (k : ℕ). at w (COUNTS + n) + k) (unseen_all w n)
