-- `write_item::write_reference::put_path` meets its contract: the part comes back with the path's bytes.
-- Assumes nothing.
use Rattle.write_item.proofs.write_reference.References as references
use Rattle.write_item.proofs.write_reference.put_path.Goals as goal

pub path_bytes-requires : goal.path_bytes-requires
path_bytes-requires c =
    let s = c in
    (s.requires.0, s.requires.1, references.part_long s.args.work.now s.args.slot s.args.output.now s.args.start s.args.count s.requires.2 s.requires.3)
