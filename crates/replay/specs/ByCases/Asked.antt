-- For private clauses: a message doesn't request a compile.
use Rattle.texts.specs.declared.asked.Asked.{Asked}
use Rattle.texts.specs.declared.asked.Asked.TheVariants as asked
use Rattle.replay.specs.ByCases.MachineSteps.{IsAsked}

abbrev pub AsksNoCompile : Asked → Type 0
AsksNoCompile (asked.Step id kind step) = IsAsked step
AsksNoCompile other = Unit {0}
