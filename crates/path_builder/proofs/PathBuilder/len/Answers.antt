-- `path_builder::PathBuilder::len` meets its contract: eight bits for each byte, less the free places.
-- Assumes nothing.
use native.Mathlib.Omega.{arith}
use Rattle.path_builder.specs.BuilderLaws.{length_built}
use Rattle.path_builder.proofs.PathBuilder.len.Goals as goal

pub returns-then-self-eq7 : goal.returns-then-self-eq7
returns-then-self-eq7 c = λ store sound. omega (arith, length_built store c.args.self sound)

pub returns-else-self-eq7 : goal.returns-else-self-eq7
returns-else-self-eq7 c = λ store sound. omega (arith, c.from.ensures, c.requires.place, length_built store c.args.self sound)
