-- `search_bytes::stack_bits::push_eight` meets its contract: ones that begin a byte are ones like others.
-- Assumes nothing.
use Rattle.search_bytes.proofs.Pushing.{byte_asks, byte_done}
use Rattle.search_bytes.proofs.stack_bits.push_eight.Goals as goal

pub push_number-requires : goal.push_number-requires
push_number-requires c =
    let s = c in
    byte_asks s.args.store.now s.args.builder c.if-builder-eq7.true s.requires.0 s.requires.1

pub returns-then-builder-eq7 : goal.returns-then-builder-eq7
returns-then-builder-eq7 c =
    let t = c in
    let a = t.args in
    let p = c.push_number in
    byte_done a.store.now a.builder t.if-builder-eq7.true p.new.store p.result p.ensures
