-- A reason that holds for one connector, or fails there, over all for which the row is checked.
use Rattle.std.proofs.Common.{◌≡◌, ℕ, ◌+◌, ◌<◌, ◌≤◌, Option, Some, None, subst, sym}
use Rattle.meaning.specs.declared.ask.Ask.{Ask}
use Rattle.explain_pages.specs.declared.explained_request.NotCountedReason.{NotCountedReason}
use Rattle.explain_pages.specs.declared.explained_request.NotCountedReason.TheVariants.{NotLeast}
use Rattle.explain_pages.specs.declared.row_at_connector.RowAtConnector.{RowAtConnector}
use Rattle.explain_pages.specs.declared.row_at_connector.RowInRequest.{RowInRequest}
use Rattle.explain_pages.specs.ByCases.Throughout.{IsOf, IsFailing, FirstFailing, IsLookedAt, SaysOf, FailsOnce, FoundFailing}

pub fails_for : (reason : NotCountedReason) (asked : RowInRequest) (number : ℕ) (row_at_connector : RowAtConnector) (second : ℕ) → IsOf asked number row_at_connector → IsLookedAt asked number → IsFailing reason row_at_connector second
    → FailsOnce reason asked second
fails_for reason asked number row_at_connector second of there failing = record {
  connector = number;
  looked_at = there;
  from = subst (λ (ask : Ask). ask.start ≤ second) of.ask failing.from;
  before = subst (λ (ask : Ask). second < ask.start + ask.duration) of.ask failing.before;
  fails = λ is. of.says NotLeast second (failing.fails is);
}

pub says_for : (reason : NotCountedReason) (asked : RowInRequest) (number : ℕ) (row_at_connector : RowAtConnector) → IsOf asked number row_at_connector → FirstFailing reason row_at_connector None
    → (second : ℕ) → asked.ask.start ≤ second → second < asked.ask.start + asked.ask.duration → SaysOf reason asked number second
says_for reason asked number row_at_connector of each second from before =
    of.says reason second
    (each second (subst (λ (ask : Ask). ask.start ≤ second) (sym of.ask) from) (subst (λ (ask : Ask). second < ask.start + ask.duration) (sym of.ask) before))

pub found_one : (reason : NotCountedReason) (asked : RowInRequest) (number : ℕ) (row_at_connector : RowAtConnector) (result : Option ℕ) → IsOf asked number row_at_connector → IsLookedAt asked number
    → ((connector : ℕ) → IsLookedAt asked connector → connector ≡ number) → FirstFailing reason row_at_connector result → FoundFailing reason asked result
found_one reason asked number row_at_connector None of there only each = λ connector second at from before.
    subst (λ (n : ℕ). SaysOf reason asked n second) (sym (only connector at)) (says_for reason asked number row_at_connector of each second from before)
found_one reason asked number row_at_connector (Some second) of there only failing = fails_for reason asked number row_at_connector second of there failing
