-- By the effect of each event on the points.
use Rattle.std.proofs.Common.{refl}
use Rattle.site_core.proofs.PointsOfHistories.{same_points}
use Rattle.site_core.proofs.headline.points_follow_events.Goals as goal

pub returns : goal.returns
returns c = λ old one other events legal also. same_points old old one other events refl refl legal also
