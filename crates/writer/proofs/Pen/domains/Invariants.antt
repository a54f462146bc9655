-- `Pen::domains` meets its contract: the loop has put the domains that it passed one after the other. Assumes nothing.
use Rattle.writer.specs.Bytes.{joined, domain_bytes}
use Rattle.writer.specs.Steps.{Puts}
use Rattle.writer.proofs.Pen.domains.Given as goal

abbrev pub invariant-loop-domain : goal.invariant-loop-domain
invariant-loop-domain l = Puts l.initial.self (joined (domain_bytes l.domains) l.domain-index) l.self
