-- `session_begin::open` puts all tables of the file into work.
-- Assumes nothing.
use mathlib.Core.Path.{refl}
use native.Mathlib.Omega.{arith}
use Rattle.session_begin.proofs.Opening.{firsts_ask, opened}
use Rattle.session_begin.proofs.open.Goals as goal

pub load_firsts-requires : goal.load_firsts-requires
load_firsts-requires c = firsts_ask c.requires.0 (omega (arith, c.load_places.auto.tables, c.requires.1)) c.load_places.ensures _ refl

pub returns : goal.returns
returns c =
    let l = c.load_firsts in
    opened c.requires.0 (omega (arith, c.load_places.auto.tables, c.requires.1)) c.load_places.ensures _ refl l.new.work l.auto.work l.ensures
