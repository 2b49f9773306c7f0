-- Moved parents all stand at the end of the root's list: what is dropped beyond 100 comes from the front.
-- Assumes nothing.
use Rattle.std.specs.Prelude.{◌-◌, ◌≤◌, ◌≡◌, List, ◌++◌, length, drop}
use Rattle.std.proofs.Common.{arith, length-append}
use Rattle.std.proofs.lemmas.List.{drop-append-le}
use Rattle.spec_session.specs.Cache.{Parent, move_parents}

pub moved_last : (moved ps : List Parent) → length moved ≤ 100 → (kept : List Parent) × (move_parents moved ps ≡ kept ++ moved)
moved_last moved ps few =
    (drop (length (ps ++ moved) - 100) ps, drop-append-le (length (ps ++ moved) - 100) ps moved (omega (arith, length-append ps moved)))
