use Rattle.log_output.proofs.ReadingOn.{limits}
use Rattle.log_output.proofs.run.Goals as goal

pub returns : goal.returns
returns g c =
    let began = c.start-monitored in
    let limit = c.min-limit in
    record {
      begun = began.result;
      out₁ = began.new.out;
      begins = began.ensures;
      limit = limit.result;
      limited = limits began.result.progress c.args.size c.allowed.ensures limit.ensures;
      rest = c.all-rest.result;
      out₂ = c.all-rest.new.out;
      fed = c.all-rest.ensures;
      finished = c.finish.ensures;
      not_read_on = c.unread.ensures;
    }
