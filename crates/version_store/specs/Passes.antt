-- The counts of changes that were made and of answers that were handed out, of all sessions and of
-- each.
use Rattle.std.specs.Prelude.{ℕ, ◌+◌, max, List, sum_by}
use Rattle.site_core.specs.declared.reply.Reply.{Reply}
use Rattle.site_core.specs.Step.{counted}
use Rattle.version_store.specs.declared.totals.Totals.{Totals}

abbrev pub no_totals : Totals
no_totals = record { changes = 0; answers = 0 }

-- the totals with the counts of one more reply
abbrev pub totals_after : Totals → Reply → Totals
totals_after old reply = record {
  changes = old.changes + (counted reply).changes;
  answers = old.answers + (counted reply).answers;
}

-- the counts of a session
pub record PassState : Type 0 where
  -- the changes and answers of its own calls
  pub totals : Totals
  -- the newest version of the store that it has seen
  pub seen : ℕ

abbrev pub unused_pass : PassState
unused_pass = record { totals = no_totals; seen = 0 }

-- after a call with this reply, which left the store at this version
abbrev pub pass_after : PassState → Reply → ℕ → PassState
pass_after old reply version = record {
  totals = totals_after old.totals reply;
  seen = max old.seen version;
}

-- the sums over sessions
abbrev pub totals_together : List PassState → Totals
totals_together sessions = record {
  changes = sum_by (λ (pass : PassState). pass.totals.changes) sessions;
  answers = sum_by (λ (pass : PassState). pass.totals.answers) sessions;
}
