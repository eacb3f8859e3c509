-- The law is proved in `InstallCauses`.
use Rattle.point_book.proofs.InstallCauses.{installs}
use Rattle.point_book.proofs.install_laws.installs.Goals as goal

pub returns : goal.returns
returns c = installs
