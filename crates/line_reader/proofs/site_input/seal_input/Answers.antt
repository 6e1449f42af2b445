use Rattle.line_reader.proofs.AsMade.{inputs_as_made}
use Rattle.line_reader.proofs.SumExamples.{worked_inputs, worked_sums}
use Rattle.line_reader.proofs.site_input.seal_input.Goals as goal

pub returns-clause-as_made : goal.returns-clause-as_made
returns-clause-as_made c =
    inputs_as_made c.register_facts.ensures.facts c.register_facts-2.ensures.facts c.register_facts-3.ensures.facts

pub returns-clause-sums : goal.returns-clause-sums
returns-clause-sums c = worked_sums c.register_facts.ensures.facts

pub returns-clause-inputs : goal.returns-clause-inputs
returns-clause-inputs c = worked_inputs
