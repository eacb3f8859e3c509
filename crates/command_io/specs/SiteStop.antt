-- Why the program stops if its site can't be read.
use Rattle.std.specs.Prelude.{⊤, ◌≡◌, ℕ, List, Err}
use Rattle.site_rules.specs.declared.fault.SiteFault.{SiteFault}
use Rattle.site_rules.specs.declared.fault.SiteFault.TheVariants as site_fault
use Rattle.command_io.specs.declared.program_fault.ProgramFault.{ProgramFault}
use Rattle.command_io.specs.declared.program_fault.ProgramFault.TheVariants.{Site, SiteFile, OutOfMemory}
use Rattle.site_rules.specs.ByCases.SiteReading.{site_of}

-- a failed allocation is no fault of the site file
abbrev pub site_stop : SiteFault → ProgramFault
site_stop site_fault.OutOfMemory = OutOfMemory
site_stop fault = Site fault

-- a fault of the site file is one that some bytes have; else a device failed, or memory ran out
abbrev pub IsSiteStop : ProgramFault → Type 0
IsSiteStop (Site fault) = (bytes : List ℕ) × (site_of bytes ≡ Err fault)
IsSiteStop SiteFile = ⊤
IsSiteStop OutOfMemory = ⊤
IsSiteStop _ = ⊥
