-- Whose key opens a path (OCPP-J 1.6, 3.1.1 and 6.2).
use Rattle.std.specs.Prelude.{ℕ, List}
use Rattle.site_keys.specs.declared.role.Role.{Role}
use Rattle.site_keys.specs.declared.role.Role.TheVariants as key
use Rattle.server_ports.specs.declared.path.PathPeer.{PathPeer}
use Rattle.server_ports.specs.declared.path.PathPeer.TheVariants as path

abbrev pub role_of : PathPeer → Role
role_of (path.Operator id) = key.Operator
role_of (path.Point id) = key.Point

abbrev pub identity_of : PathPeer → List ℕ
identity_of (path.Operator id) = id.now
identity_of (path.Point id) = id.now
