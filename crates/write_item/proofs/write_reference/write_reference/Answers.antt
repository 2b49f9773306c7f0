-- `write_item::write_reference::write_reference` meets its contract.
-- Assumes nothing.
use mathlib.Core.Path.{ap, ◌∙◌}
use mathlib.Core.Bool.{not}
use lib.ListN.{length}
use Rattle.search_list.specs.State.{path_at}
use Rattle.spec_session.specs.Items.{width_or_0, reference_item}
use Rattle.write_item.proofs.Puts.{no_room, has_room}
use Rattle.write_item.proofs.Counting.{put_counted}
use Rattle.write_item.proofs.write_reference.References.{reference_full, reference_next}
use Rattle.write_item.proofs.write_reference.write_reference.Goals as goal

pub returns-then-not-fits : goal.returns-then-not-fits
returns-then-not-fits c =
    let w = c in
    let b = w.path_bits-bits in
    let a = w.args in
    λ path e.
    record {
      bytes =
          reference_full a.output.now a.counts.size b.result w.path_width-width.result (path_at a.work.now a.slot) path e b.ensures.0
          w.path_width-width.ensures.1 (no_room _ _ _ c.fits.ensures (ap not c.if-not-fits.true));
      counted = tt;
    }

pub returns : goal.returns
returns c =
    let t = c in
    let w = t in
    let b = w.path_bits-bits in
    let a = w.args in
    let r = c.put_reference in
    λ path e.
    put_counted a.output.now _ a.counts (reference_item path) _ _
    (reference_next a.output.now a.counts.size b.result w.path_width-width.result (path_at a.work.now a.slot) path e b.ensures.0
    w.path_width-width.ensures.1 r.new.output (has_room _ _ _ t.fits.ensures (ap not t.if-not-fits.false)) r.ensures)
    (ap width_or_0 (w.path_width-width.ensures.1 path (b.ensures.0 ∙ ap length e))) _ c.with_reference.ensures
