-- The size that is counted is that of the items written.
-- Assumes nothing.
use Prim.Native.Nat.{ℕ}
use mathlib.Core.Path.{◌≡◌, ap}
use mathlib.Core.List.{List}
use Rattle.spec_session.specs.File.{File}
use Rattle.spec_session.specs.Cache.{Cache}
use Rattle.spec_session.specs.Items.{size_of}
use Rattle.spec_session.specs.Writer.{Written}
use Rattle.write_counts.specs.declared.Counts.{Counts}
use Rattle.write_place.specs.State.{Writes}

pub size_written : {f : File} {w out : List ℕ} {d : ℕ} {counts : Counts} {c : Cache} {s : Written} → Writes f w out d counts c s → counts.size ≡ size_of s.items
size_written wr = ap (λ (x : Counts). x.size) wr.counts_are
