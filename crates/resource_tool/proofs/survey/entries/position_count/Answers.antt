use Rattle.chunk_walk.specs.Chunk.{chunk_of}
use Rattle.resource_tool.proofs.EntriesSteps.{notes-within}
use Rattle.resource_tool.proofs.survey.entries.position_count.Goals as goal

pub returns-clause-all : goal.returns-clause-all
returns-clause-all c = notes-within (chunk_of c.args.chunk.now) c.min.result (cc)
