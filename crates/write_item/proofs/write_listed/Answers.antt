-- `write_item::write_listed` meets its contract: an atom whose size a prefix holds has bytes, so the write is never one of an atom too long.
-- Assumes nothing.
use mathlib.Core.Path.{ap}
use Rattle.std.proofs.lemmas.Result.{err_from_is_err_and}
use Rattle.spec_session.specs.Items.{width_or_0, atom_item}
use Rattle.write_item.proofs.Puts.{put_atom, put_refused, mapped_ok, mapped_err}
use Rattle.write_item.proofs.Counting.{few_prefixes, put_counted}
use Rattle.write_item.proofs.write_listed.Goals as goal

pub returns-in_err-written : goal.returns-in_err-written
returns-in_err-written c =
    let a = c.args in
    let p = err_from_is_err_and c.from_residual.result c.from_residual.ensures.1 in
    let e = mapped_err c.write_atom.result c.map_err.result c.map_err.ensures.variant c.in_err-written.field-0.0 c.in_err-written.was in
    rw p.1
    (record {
      bytes = put_refused a.output.now a.counts.size a.blob.now c.requires.1 e.0 c.write_atom.new.output (rw e.1 at c.write_atom.ensures.0);
      counted = tt;
    })

pub with_atom-requires : goal.with_atom-requires
with_atom-requires c =
    let a = c.args in
    let e = mapped_ok c.write_atom.result c.map_err.result c.map_err.ensures.variant c.in_ok-written.written _ c.map_err.ensures.cases c.in_ok-written.was in
    few_prefixes a.output.now c.write_atom.new.output a.counts (atom_item a.blob.now) _ _
    (put_atom a.output.now a.counts.size a.blob.now c.requires.1 _ (rw e at c.write_atom.ensures.0))
    (ap width_or_0 (rw e at c.write_atom.ensures.1)) c.requires.0

pub returns : goal.returns
returns c =
    let a = c.args in
    let e = mapped_ok c.write_atom.result c.map_err.result c.map_err.ensures.variant c.in_ok-written.written _ c.map_err.ensures.cases c.in_ok-written.was in
    put_counted a.output.now c.write_atom.new.output a.counts (atom_item a.blob.now) _ _
    (put_atom a.output.now a.counts.size a.blob.now c.requires.1 _ (rw e at c.write_atom.ensures.0))
    (ap width_or_0 (rw e at c.write_atom.ensures.1)) _ c.with_atom.ensures
