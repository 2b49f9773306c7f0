-- `session_begin::load_places` puts the places of the atoms and the handles of the pairs into work.
-- Assumes nothing.
use mathlib.Core.Path.{sym}
use native.Mathlib.Omega.{arith}
use Rattle.words.proofs.Words.{part_length}
use Rattle.words.specs.Words.{part}
use Rattle.file_parts.specs.CheckedLaws.{atoms_to_load, pairs_to_load}
use Rattle.session_state.specs.State.{the_file}
use Rattle.session_begin.proofs.Opening.{few_twice, pairs_room, placed}
use Rattle.session_begin.proofs.load_places.Goals as goal

pub load_atoms-requires : goal.load_atoms-requires
unfolding part
load_atoms-requires c =
    let cleared = c in
    let cl = cleared.clear_tables in
    let pre = cleared.requires in
    (atoms_to_load pre.0, omega (arith, (few_twice pre.0).0, part_length cl.new.work 0 2048 (omega (arith, cl.auto.work, pre.1))))

pub load_pairs-requires : goal.load_pairs-requires
unfolding part
load_pairs-requires c =
    let loaded = c in
    let cleared = loaded in
    let la = loaded.load_atoms in
    let cl = cleared.clear_tables in
    let pre = cleared.requires in
    (pairs_to_load pre.0, omega (arith, (few_twice pre.0).1, pairs_room pre.1 cl.new.work la.new.table cl.auto.work la.auto.table))

pub returns : goal.returns
unfolding part
returns c =
    let loaded = c in
    let cleared = loaded in
    let s = cleared in
    let f = the_file s.args.file.now in
    let p = s.requires.0 in
    let cl = cleared.clear_tables in
    let la = loaded.load_atoms in
    let lp = c.load_pairs in
    placed p s.requires.1 cl.new.work la.new.table lp.new.table cl.auto.work cl.ensures
    la.auto.table (la.ensures f.atoms (sym p.atoms_are) p.atoms_there) lp.auto.table (lp.ensures f.pairs (sym p.pairs_are) p.pairs_there)
