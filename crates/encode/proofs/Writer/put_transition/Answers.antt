use Rattle.encode.specs.Rising.{transition_of}
use Rattle.encode.proofs.Steps.{transition_all}
use Rattle.encode.proofs.Writer.put_transition.Goals as goal

pub returns : goal.returns
returns c =
    let a = c.args in
    transition_all (transition_of a.from a.event a.to) c.put_number.ensures c.put_number-2.ensures c.put_number-3.ensures
