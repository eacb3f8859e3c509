-- An obeying point stays in step: a call acts on the lasting rows alone, and a second time it
-- changes nothing; a transaction's own profile acts on the lasting rows of its id alone.
use Rattle.std.proofs.Common.{◌≡◌, ℕ, ℤ, ◌+◌, zero, suc, Bool, true, false, not, ◌||◌, ◌&&◌, ◌==◌, ◌⊎◌, inl, inr, refl, sym, ◌∙◌, ap, subst, List, [], ◌∷◌, ◌++◌, filter, map, Option, None, Some, is_some, is_none, slice_get, cond, append-nil, arith}
use Rattle.std.specs.List.{AllByRecursion, filter_map, cons_option, list_any}
use Rattle.std.specs.Ordering.{int_eq}
use Rattle.std.proofs.lemmas.Bool.Decides.{Decides-int_eq}
use Rattle.std.proofs.lemmas.List.Elements.{filter-append}
use Rattle.profile.specs.declared.charging_profile.Profile.{Profile}
use Rattle.profile.specs.declared.row.Row.{Row}
use Rattle.profile.specs.declared.criteria.Criteria.{Criteria}
use Rattle.profile.specs.declared.purpose.Purpose.{Purpose}
use Rattle.profile.specs.declared.purpose.Purpose.TheVariants.{ChargePointMaxProfile, TxDefaultProfile, TxProfile}
use Rattle.profile.specs.Purpose.{is_tx}
use Rattle.profile.specs.Changes.{installed, cleared, without_transaction_profiles, has_key_of, is_met, is_purpose, is_replaced_by, rows_beside, matches, is_tx_profile_at}
use Rattle.profile.specs.ChargingProfile.{with_transaction}
use Rattle.transactions.specs.declared.begin.Begin.{Begin}
use Rattle.messages.specs.declared.call.CallBody.{CallBody}
use Rattle.messages.specs.declared.call.CallBody.TheVariants.{Clear, Set}
use Rattle.point_book.specs.Changes.{rows_started}
use Rattle.site_core.specs.Outbox.{every_profile}
use Rattle.site_core.specs.OutboxOrder.{GoesOn}
use Rattle.site_core.specs.ChargePoint.{Deed, Installs, Clears, Starts, Stops, rows_after, call_of}
use Rattle.site_core.specs.Obey.{Obeying, AreInStepBut, BeginsWithTxProfile, StaysInStep, at_moment, calls_of, clears_all_of, exempt_after, exempt_after_call, last_number, lasting_but, lasts_but, numbers_of, obeyed, obeyed_call, rows_after_call}

-- ---- filters

filter_kept : {X : Type 0} (test : X → Bool) (x : X) (xs : List X) → test x ≡ true
    → filter test (x ∷ xs) ≡ x ∷ filter test xs
filter_kept test x xs is = rw is refl

filter_gone : {X : Type 0} (test : X → Bool) (x : X) (xs : List X) → test x ≡ false
    → filter test (x ∷ xs) ≡ filter test xs
filter_gone test x xs is = rw is refl

filter_again : {X : Type 0} (test : X → Bool) (xs : List X)
    → filter test (filter test xs) ≡ filter test xs
filter_again test [] = refl
filter_again {X = X} test (x ∷ xs) = go (test x) refl (filter_again test xs)
  where
    go : (b : Bool) → test x ≡ b → filter test (filter test xs) ≡ filter test xs
        → filter test (filter test (x ∷ xs)) ≡ filter test (x ∷ xs)
    go true is rest = ap (filter test) (filter_kept test x xs is)
        ∙ filter_kept test x (filter test xs) is
        ∙ ap (λ (ys : List X). x ∷ ys) rest ∙ sym (filter_kept test x xs is)
    go false is rest = ap (filter test) (filter_gone test x xs is) ∙ rest
        ∙ sym (filter_gone test x xs is)

filter_none : {X : Type 0} (xs : List X) → filter (λ _. false) xs ≡ []
filter_none [] = refl
filter_none (x ∷ xs) = filter_none xs

-- what passes one test passes or fails two others alike
filter_alike : {X : Type 0} (test p q : X → Bool) → ((x : X) → test x ≡ true → p x ≡ q x)
    → (xs : List X) → filter p (filter test xs) ≡ filter q (filter test xs)
filter_alike test p q alike [] = refl
filter_alike {X = X} test p q alike (x ∷ xs) =
    go (test x) refl (p x) refl (filter_alike test p q alike xs)
  where
    go : (a : Bool) → test x ≡ a → (b : Bool) → p x ≡ b
        → filter p (filter test xs) ≡ filter q (filter test xs)
        → filter p (filter test (x ∷ xs)) ≡ filter q (filter test (x ∷ xs))
    go true passes true stays rest =
        ap (filter p) (filter_kept test x xs passes) ∙ filter_kept p x (filter test xs) stays
        ∙ ap (λ (ys : List X). x ∷ ys) rest
        ∙ sym (ap (filter q) (filter_kept test x xs passes)
        ∙ filter_kept q x (filter test xs) (sym (alike x passes) ∙ stays))
    go true passes false goes rest =
        ap (filter p) (filter_kept test x xs passes) ∙ filter_gone p x (filter test xs) goes
        ∙ rest
        ∙ sym (ap (filter q) (filter_kept test x xs passes)
        ∙ filter_gone q x (filter test xs) (sym (alike x passes) ∙ goes))
    go false fails b is rest =
        ap (filter p) (filter_gone test x xs fails) ∙ rest
        ∙ sym (ap (filter q) (filter_gone test x xs fails))

-- ---- lasting rows

lasting_kept : (ids : List ℤ) (row : Row) (rows : List Row) → lasts_but ids row ≡ true
    → lasting_but ids (row ∷ rows) ≡ at_moment 0 row ∷ lasting_but ids rows
lasting_kept ids row rows is =
    ap (map (at_moment 0)) (filter_kept (lasts_but ids) row rows is)

lasting_gone : (ids : List ℤ) (row : Row) (rows : List Row) → lasts_but ids row ≡ false
    → lasting_but ids (row ∷ rows) ≡ lasting_but ids rows
lasting_gone ids row rows is =
    ap (map (at_moment 0)) (filter_gone (lasts_but ids) row rows is)

lasting_append : (ids : List ℤ) (rows others : List Row)
    → lasting_but ids (rows ++ others) ≡ lasting_but ids rows ++ lasting_but ids others
lasting_append ids [] others = refl
lasting_append ids (row ∷ rows) others =
    go (lasts_but ids row) refl (lasting_append ids rows others)
  where
    go : (b : Bool) → lasts_but ids row ≡ b
        → lasting_but ids (rows ++ others) ≡ lasting_but ids rows ++ lasting_but ids others
        → lasting_but ids ((row ∷ rows) ++ others)
        ≡ lasting_but ids (row ∷ rows) ++ lasting_but ids others
    go true is rest = lasting_kept ids row (rows ++ others) is
        ∙ ap (λ (rs : List Row). at_moment 0 row ∷ rs) rest
        ∙ ap (λ (rs : List Row). rs ++ lasting_but ids others) (sym (lasting_kept ids row rows is))
    go false is rest = lasting_gone ids row (rows ++ others) is ∙ rest
        ∙ ap (λ (rs : List Row). rs ++ lasting_but ids others) (sym (lasting_gone ids row rows is))

-- a test that reads no moment acts on the lasting rows alone
lasting_filter : (ids : List ℤ) (test : Row → Bool)
    → ((row : Row) → test (at_moment 0 row) ≡ test row)
    → (rows : List Row)
    → lasting_but ids (filter test rows) ≡ filter test (lasting_but ids rows)
lasting_filter ids test same [] = refl
lasting_filter ids test same (row ∷ rows) = go (test row) refl (lasts_but ids row) refl
    (lasting_filter ids test same rows)
  where
    go : (a : Bool) → test row ≡ a → (b : Bool) → lasts_but ids row ≡ b
        → lasting_but ids (filter test rows) ≡ filter test (lasting_but ids rows)
        → lasting_but ids (filter test (row ∷ rows)) ≡ filter test (lasting_but ids (row ∷ rows))
    go true passes true stays rest =
        ap (lasting_but ids) (filter_kept test row rows passes)
        ∙ lasting_kept ids row (filter test rows) stays
        ∙ ap (λ (rs : List Row). at_moment 0 row ∷ rs) rest
        ∙ sym (filter_kept test (at_moment 0 row) (lasting_but ids rows) (same row ∙ passes))
        ∙ ap (filter test) (sym (lasting_kept ids row rows stays))
    go true passes false goes rest =
        ap (lasting_but ids) (filter_kept test row rows passes)
        ∙ lasting_gone ids row (filter test rows) goes
        ∙ rest
        ∙ ap (filter test) (sym (lasting_gone ids row rows goes))
    go false fails true stays rest =
        ap (lasting_but ids) (filter_gone test row rows fails) ∙ rest
        ∙ sym (filter_gone test (at_moment 0 row) (lasting_but ids rows) (same row ∙ fails))
        ∙ ap (filter test) (sym (lasting_kept ids row rows stays))
    go false fails false goes rest =
        ap (lasting_but ids) (filter_gone test row rows fails) ∙ rest
        ∙ ap (filter test) (sym (lasting_gone ids row rows goes))

-- a test that all lasting rows pass leaves them
lasting_within : (ids : List ℤ) (test : Row → Bool)
    → ((row : Row) → lasts_but ids row ≡ true → test row ≡ true)
    → (rows : List Row)
    → lasting_but ids (filter test rows) ≡ lasting_but ids rows
lasting_within ids test each [] = refl
lasting_within ids test each (row ∷ rows) = go (test row) refl (lasts_but ids row) refl
    (lasting_within ids test each rows)
  where
    go : (a : Bool) → test row ≡ a → (b : Bool) → lasts_but ids row ≡ b
        → lasting_but ids (filter test rows) ≡ lasting_but ids rows
        → lasting_but ids (filter test (row ∷ rows)) ≡ lasting_but ids (row ∷ rows)
    go true passes true stays rest =
        ap (lasting_but ids) (filter_kept test row rows passes)
        ∙ lasting_kept ids row (filter test rows) stays
        ∙ ap (λ (rs : List Row). at_moment 0 row ∷ rs) rest ∙ sym (lasting_kept ids row rows stays)
    go true passes false goes rest =
        ap (lasting_but ids) (filter_kept test row rows passes)
        ∙ lasting_gone ids row (filter test rows) goes
        ∙ rest
        ∙ sym (lasting_gone ids row rows goes)
    go false fails true stays rest = let passes = each row stays in cc
    go false fails false goes rest =
        ap (lasting_but ids) (filter_gone test row rows fails) ∙ rest
        ∙ sym (lasting_gone ids row rows goes)

-- where each row that passes a test lasts for the fewer exempt ids if it does for these, the test's
-- effect on the lasting rows is that for these
lasting_beside : (ids fewer : List ℤ) (test : Row → Bool)
    → ((row : Row) → test (at_moment 0 row) ≡ test row)
    → ((row : Row) → test row ≡ true → lasts_but fewer row ≡ lasts_but ids row)
    → (rows : List Row)
    → lasting_but fewer (filter test rows) ≡ filter test (lasting_but ids rows)
lasting_beside ids fewer test same alike rows =
    ap (map (at_moment 0)) (filter_alike test (lasts_but fewer) (lasts_but ids) alike rows)
    ∙ lasting_filter ids test same rows

pub lasting_end : (ids : List ℤ) (rows : List Row) (connector : ℕ)
    → lasting_but ids (without_transaction_profiles rows connector) ≡ lasting_but ids rows
lasting_end ids rows connector =
    lasting_within ids (λ row. not (is_tx_profile_at connector row)) stays rows
  where
    by : (a b c : Bool) → not a && not b ≡ true → not (b && c) ≡ true
    by a false c is = refl
    by true true c is = absurd (cc is)
    by false true c is = absurd (cc is)

    stays : (row : Row) → lasts_but ids row ≡ true → not (is_tx_profile_at connector row) ≡ true
    stays row is = by (list_any (int_eq row.profile.id) ids) (is_tx row.profile.purpose)
        (row.connector == connector) is

-- whatever the moment of a row
lasting_with_moment : (ids : List ℤ) (moment : ℕ) (row : Row)
    → lasting_but ids (at_moment moment row ∷ []) ≡ lasting_but ids (row ∷ [])
lasting_with_moment ids moment row = go (lasts_but ids row) refl
  where
    go : (b : Bool) → lasts_but ids row ≡ b
        → lasting_but ids (at_moment moment row ∷ []) ≡ lasting_but ids (row ∷ [])
    go true is =
        lasting_kept ids (at_moment moment row) [] is ∙ sym (lasting_kept ids row [] is)
    go false is =
        lasting_gone ids (at_moment moment row) [] is ∙ sym (lasting_gone ids row [] is)

-- one more exempt id
lasting_without : (ids : List ℤ) (id : ℤ) (rows : List Row)
    → lasting_but (id ∷ ids) rows
    ≡ filter (λ (row : Row). not (int_eq row.profile.id id)) (lasting_but ids rows)
lasting_without ids id rows =
    sym (lasting_within (id ∷ ids) other passes rows)
    ∙ lasting_beside ids (id ∷ ids) other (λ _. refl) alike rows
  where
    other : Row → Bool
    other row = not (int_eq row.profile.id id)

    by : (a b c : Bool) → not (a || b) && c ≡ true → not a ≡ true
    by false b c is = refl
    by true b c is = absurd (cc is)

    passes : (row : Row) → lasts_but (id ∷ ids) row ≡ true → other row ≡ true
    passes row is = by (int_eq row.profile.id id) (list_any (int_eq row.profile.id) ids)
        (not (is_tx row.profile.purpose)) is

    same : (a b c : Bool) → not a ≡ true → (not (a || b) && c) ≡ (not b && c)
    same false b c is = refl
    same true b c is = absurd (cc is)

    alike : (row : Row) → other row ≡ true → lasts_but (id ∷ ids) row ≡ lasts_but ids row
    alike row is = same (int_eq row.profile.id id) (list_any (int_eq row.profile.id) ids)
        (not (is_tx row.profile.purpose)) is

-- fewer exempt ids: a row whose id stays exempt if it was lasts as before
still_one_of : (test : ℤ → Bool) (id : ℤ) → test id ≡ true → (ids : List ℤ)
    → list_any (int_eq id) (filter test ids) ≡ list_any (int_eq id) ids
still_one_of test id is [] = refl
still_one_of test id is (other ∷ ids) =
    go (test other) refl (int_eq id other) refl (still_one_of test id is ids)
  where
    go : (a : Bool) → test other ≡ a → (b : Bool) → int_eq id other ≡ b
        → list_any (int_eq id) (filter test ids) ≡ list_any (int_eq id) ids
        → list_any (int_eq id) (filter test (other ∷ ids)) ≡ list_any (int_eq id) (other ∷ ids)
    go true passes b same rest =
        ap (list_any (int_eq id)) (filter_kept test other ids passes)
        ∙ ap (λ (c : Bool). int_eq id other || c) rest
    go false fails true same rest =
        let equal : id ≡ other = (Decides-int_eq id other).0 same in
        let contrary : true ≡ false = sym is ∙ ap test equal ∙ fails in
        absurd (cc contrary)
    go false fails false differs rest =
        ap (list_any (int_eq id)) (filter_gone test other ids fails) ∙ rest
        ∙ sym (ap (λ (c : Bool). c || list_any (int_eq id) ids) differs)

lasts_alike : (ids : List ℤ) (test : ℤ → Bool) (row : Row) → test row.profile.id ≡ true
    → lasts_but (filter test ids) row ≡ lasts_but ids row
lasts_alike ids test row is =
    ap (λ (b : Bool). not b && not (is_tx row.profile.purpose))
    (still_one_of test row.profile.id is ids)

-- ---- a call on lasting rows

abbrev stays_beside : Row → Row → Bool
stays_beside new row = not (is_replaced_by new row)

abbrev fails_some : Criteria → Row → Bool
fails_some criteria row = not (matches criteria row)

-- the row that a call sets, except for its moment
abbrev row_of : ℕ → Profile → Row
row_of connector profile = record { connector = connector; moment = 0; profile = profile }

-- the lasting rows after a call; without a call, or after one of another action, they stay
abbrev on_lasting : List ℤ → Option CallBody → List Row → List Row
on_lasting ids (Some (Set connector profile)) rows =
    filter (stays_beside (row_of connector profile)) rows
    ++ lasting_but ids (row_of connector profile ∷ [])
on_lasting ids (Some (Clear criteria)) rows = filter (fails_some criteria) rows
on_lasting ids call rows = rows

-- an install, where its profile's id may have been exempt
installed_beside : (ids fewer : List ℤ) (rows : List Row) (row : Row)
    → ((other : Row) → stays_beside row other ≡ true → lasts_but fewer other ≡ lasts_but ids other)
    → lasting_but fewer (installed rows row)
    ≡ on_lasting fewer (Some (Set row.connector row.profile)) (lasting_but ids rows)
installed_beside ids fewer rows row alike =
    lasting_append fewer (rows_beside rows row) (row ∷ [])
    ∙ ap (λ (rs : List Row). rs ++ lasting_but fewer (row ∷ []))
    (lasting_beside ids fewer (stays_beside row) (λ _. refl) alike rows)
    ∙ ap (λ (rs : List Row). filter (stays_beside row) (lasting_but ids rows) ++ rs) (sym
    (lasting_with_moment fewer 0 row))

lasting_installed : (ids : List ℤ) (rows : List Row) (row : Row)
    → lasting_but ids (installed rows row)
    ≡ on_lasting ids (Some (Set row.connector row.profile)) (lasting_but ids rows)
lasting_installed ids rows row = installed_beside ids ids rows row (λ other is. refl)

lasting_cleared : (ids : List ℤ) (rows : List Row) (criteria : Criteria)
    → lasting_but ids (cleared rows criteria)
    ≡ on_lasting ids (Some (Clear criteria)) (lasting_but ids rows)
lasting_cleared ids rows criteria = lasting_filter ids (fails_some criteria) (λ _. refl) rows

lasting_obeyed : (ids : List ℤ) (moment : ℕ) (call : Option CallBody) (rows : List Row)
    → lasting_but ids (obeyed_call moment call rows) ≡ on_lasting ids call (lasting_but ids rows)
lasting_obeyed ids moment (Some (Set connector profile)) rows =
    lasting_installed ids rows
    (record { connector = connector; moment = moment; profile = profile })
lasting_obeyed ids moment (Some (Clear criteria)) rows = lasting_cleared ids rows criteria
lasting_obeyed ids moment call rows = refl

-- an install would replace the row that it adds
replaces_itself : (ids : List ℤ) (row : Row)
    → filter (stays_beside row) (lasting_but ids (row ∷ [])) ≡ []
replaces_itself ids row = go (lasts_but ids row) refl
  where
    by : (a b : Bool) → a ≡ true → not (a || b) ≡ false
    by true b is = refl
    by false b is = cc

    replaced : stays_beside row (at_moment 0 row) ≡ false
    replaced =
        by (int_eq row.profile.id row.profile.id) (has_key_of row (at_moment 0 row))
        ((Decides-int_eq row.profile.id row.profile.id).1 refl)

    go : (b : Bool) → lasts_but ids row ≡ b
        → filter (stays_beside row) (lasting_but ids (row ∷ [])) ≡ []
    go true is = ap (filter (stays_beside row)) (lasting_kept ids row [] is)
        ∙ filter_gone (stays_beside row) (at_moment 0 row) [] replaced
    go false is = ap (filter (stays_beside row)) (lasting_gone ids row [] is)

-- a call that comes a second time changes nothing
on_lasting_again : (ids : List ℤ) (call : Option CallBody) (rows : List Row)
    → on_lasting ids call (on_lasting ids call rows) ≡ on_lasting ids call rows
on_lasting_again ids (Some (Set connector profile)) rows =
    let row = row_of connector profile in
    let stay = filter (stays_beside row) rows in
    let new = lasting_but ids (row ∷ []) in
    ap (λ (rs : List Row). rs ++ new)
    (filter-append (stays_beside row) stay new
    ∙ ap (λ (rs : List Row). filter (stays_beside row) stay ++ rs) (replaces_itself ids row)
    ∙ append-nil (filter (stays_beside row) stay) ∙ filter_again (stays_beside row) rows)
on_lasting_again ids (Some (Clear criteria)) rows = filter_again (fails_some criteria) rows
on_lasting_again ids call rows = refl

-- ---- a deed

-- a transaction's own TxProfile changes lasting rows of its id alone
lasting_started : (ids : List ℤ) (rows : List Row) (connector : ℕ) (begin : Begin) (number : ℤ)
    (profile : Profile) → is_tx profile.purpose ≡ true
    → lasting_but (profile.id ∷ ids) (rows_started rows connector begin number (Some profile))
    ≡ lasting_but (profile.id ∷ ids) rows
lasting_started ids rows connector begin number profile tx =
    by _ ∙ lasting_end more rows connector
  where
    more : List ℤ
    more = profile.id ∷ ids

    rest : List Row
    rest = without_transaction_profiles rows connector

    new : Row
    new = record {
      connector = connector;
      moment = begin.timestamp;
      profile = with_transaction profile number;
    }

    of_tx : (one other : Purpose) → is_tx one ≡ true → is_purpose one other ≡ is_tx other
    of_tx ChargePointMaxProfile other is = absurd (cc is)
    of_tx TxDefaultProfile other is = absurd (cc is)
    of_tx TxProfile other is = refl

    beside : (a b c d e : Bool) → not (a || b) && not d ≡ true → not (a || (c && d && e)) ≡ true
    beside true b c d e is = absurd (cc is)
    beside false true c d e is = absurd (cc is)
    beside false false c true e is = absurd (cc is)
    beside false false true false e is = refl
    beside false false false false e is = refl

    stays : (row : Row) → lasts_but more row ≡ true → stays_beside new row ≡ true
    stays row is =
        ap (λ (b : Bool). not (int_eq row.profile.id profile.id || ((row.connector == connector)
        && b && (row.profile.stack_level == profile.stack_level))))
        (of_tx profile.purpose row.profile.purpose tx)
        ∙ beside (int_eq row.profile.id profile.id) (list_any (int_eq row.profile.id) ids)
        (row.connector == connector) (is_tx row.profile.purpose)
        (row.profile.stack_level == profile.stack_level) is

    ends : (a b : Bool) → b ≡ true → not a && not b ≡ false
    ends true b is = refl
    ends false true is = refl
    ends false false is = absurd (cc is)

    gone : lasts_but more new ≡ false
    gone = ends (list_any (int_eq profile.id) more) (is_tx profile.purpose) tx

    by : (room : Bool)
        → lasting_but more (cond room (installed rest new) rest) ≡ lasting_but more rest
    by true = lasting_append more (rows_beside rest new) (new ∷ [])
        ∙ ap (λ (rs : List Row). rs ++ lasting_but more (new ∷ []))
        (lasting_within more (stays_beside new) stays rest)
        ∙ ap (λ (rs : List Row). lasting_but more rest ++ rs) (lasting_gone more new [] gone)
        ∙ append-nil (lasting_but more rest)
    by false = refl

-- a deed without a call keeps a point in step
pub in_step_without_call : (deed : Deed) (ids : List ℤ) (own rows : List Row)
    → BeginsWithTxProfile deed → is_some (call_of deed) ≡ false → AreInStepBut ids own rows
    → AreInStepBut (exempt_after ids deed) own (rows_after rows deed)
in_step_without_call (Installs row) ids own rows tx none same = absurd (cc none)
in_step_without_call (Clears criteria) ids own rows tx none same = absurd (cc none)
in_step_without_call (Starts connector begin number None) ids own rows tx none same =
    same ∙ sym (lasting_end ids rows connector)
in_step_without_call (Starts connector begin number (Some profile)) ids own rows tx none same =
    lasting_without ids profile.id own
    ∙ ap (filter (λ (row : Row). not (int_eq row.profile.id profile.id))) same
    ∙ sym (lasting_without ids profile.id rows)
    ∙ sym (lasting_started ids rows connector begin number profile tx)
in_step_without_call (Stops connector) ids own rows tx none same =
    same ∙ sym (lasting_end ids rows connector)
-- each other deed leaves all rows
in_step_without_call deed ids own rows tx none same = same

-- a point that obeys the call of a deed stays in step, also in the ids that the call settles
in_step_with_call : (deed : Deed) (ids : List ℤ) (own rows : List Row) (moment : ℕ)
    → is_some (call_of deed) ≡ true → AreInStepBut ids own rows
    → AreInStepBut (exempt_after ids deed) (obeyed_call moment (call_of deed) own)
    (rows_after rows deed)
in_step_with_call (Installs row) ids own rows moment some same =
    let call : Option CallBody = Some (Set row.connector row.profile) in
    installed_beside ids fewer own (at_moment moment row) alike ∙ ap (on_lasting fewer call) same
    ∙ sym (installed_beside ids fewer rows row alike)
  where
    fewer : List ℤ
    fewer = exempt_after ids (Installs row)

    by : (a b : Bool) → not (a || b) ≡ true → not a ≡ true
    by true b is = absurd (cc is)
    by false b is = refl

    alike : (other : Row) → stays_beside row other ≡ true
        → lasts_but fewer other ≡ lasts_but ids other
    alike other is = lasts_alike ids (λ id. not (int_eq id row.profile.id)) other
        (by (int_eq other.profile.id row.profile.id) (has_key_of row other) is)
in_step_with_call (Clears criteria) ids own rows moment some same =
    lasting_beside ids fewer (fails_some criteria) (λ _. refl) alike own
    ∙ ap (filter (fails_some criteria)) same
    ∙ sym (lasting_beside ids fewer (fails_some criteria) (λ _. refl) alike rows)
  where
    fewer : List ℤ
    fewer = exempt_after ids (Clears criteria)

    by : (a : Bool) (at : ℕ → Bool) (of : Purpose → Bool) (on : ℕ → Bool)
        (connector : Option ℕ) (purpose : Option Purpose) (level : Option ℕ)
        → not (a && is_met at connector && is_met of purpose && is_met on level) ≡ true
        → not (a && is_none connector && is_none purpose && is_none level) ≡ true
    by false at of on connector purpose level is = refl
    by true at of on None None None is = is
    by true at of on None None (Some x) is = refl
    by true at of on None (Some x) level is = refl
    by true at of on (Some x) purpose level is = refl

    alike : (row : Row) → fails_some criteria row ≡ true
        → lasts_but fewer row ≡ lasts_but ids row
    alike row is = lasts_alike ids (λ id. not (clears_all_of criteria id)) row
        (by (is_met (int_eq row.profile.id) criteria.id) (λ connector. row.connector == connector)
        (λ purpose. is_purpose purpose row.profile.purpose)
        (λ level. row.profile.stack_level == level)
        criteria.connector criteria.purpose criteria.stack_level is)
in_step_with_call (Starts connector begin number profile) ids own rows moment some same =
    absurd (cc some)
in_step_with_call (Stops connector) ids own rows moment some same = absurd (cc some)
-- each other deed leaves all rows, and so does its call, if there is one
in_step_with_call deed ids own rows moment some same = same

-- ---- the central system

-- a deed with a call changes the lasting rows as its call does
lasting_with_call : (ids : List ℤ) (deed : Deed) (rows : List Row)
    → is_some (call_of deed) ≡ true
    → lasting_but ids (rows_after rows deed) ≡ on_lasting ids (call_of deed) (lasting_but ids rows)
lasting_with_call ids (Installs row) rows some = lasting_installed ids rows row
lasting_with_call ids (Clears criteria) rows some = lasting_cleared ids rows criteria
lasting_with_call ids (Starts connector begin number profile) rows some = absurd (cc some)
lasting_with_call ids (Stops connector) rows some = absurd (cc some)
-- each other deed leaves all rows, and so does its call, if there is one
lasting_with_call ids deed rows some = refl

-- a call changes nothing more in the lasting rows that the central system has once it made it
call_again : (ids : List ℤ) (deeds : List Deed) (before : ℕ) (rows : List Row)
    → on_lasting ids (slice_get (filter_map call_of deeds) before)
    (lasting_but ids (rows_after_call (suc before) deeds rows))
    ≡ lasting_but ids (rows_after_call (suc before) deeds rows)
call_again ids [] zero rows = refl
call_again ids [] (suc before) rows = refl
call_again ids (deed ∷ later) before rows =
    by (λ n. call_again ids later n next) (call_of deed) refl before
  where
    next : List Row
    next = rows_after rows deed

    calls : List CallBody
    calls = filter_map call_of later

    -- the rows after the deed and those that follow, if it makes a call
    then : Option CallBody → ℕ → List Row
    then c count = rows_after_call (cond (is_some c) count (suc count)) later next

    Again : Option CallBody → ℕ → Type 0
    Again c count =
        on_lasting ids (slice_get (cons_option c calls) count) (lasting_but ids (then c count))
        ≡ lasting_but ids (then c count)

    by : ((n : ℕ) → on_lasting ids (slice_get calls n)
        (lasting_but ids (rows_after_call (suc n) later next))
        ≡ lasting_but ids (rows_after_call (suc n) later next))
        → (call : Option CallBody) → call_of deed ≡ call → (count : ℕ)
        → Again (call_of deed) count
    by rest (Some body) has zero =
        let some = ap (λ (c : Option CallBody). is_some c) has in
        let is : lasting_but ids next ≡ on_lasting ids (Some body) (lasting_but ids rows) =
        lasting_with_call ids deed rows some
        ∙ ap (λ (c : Option CallBody). on_lasting ids c (lasting_but ids rows)) has in
        subst (λ (c : Option CallBody). Again c 0) (sym has)
        (ap (on_lasting ids (Some body)) is
        ∙ on_lasting_again ids (Some body) (lasting_but ids rows) ∙ sym is)
    by rest (Some body) has (suc count) =
        subst (λ (c : Option CallBody). Again c (suc count)) (sym has) (rest count)
    by rest None has count =
        subst (λ (c : Option CallBody). Again c count) (sym has) (rest count)

-- up to its next call the central system does what a point does that obeys it
next_call : (deeds : List Deed) (before : ℕ) (ids : List ℤ) (own rows : List Row) (moment : ℕ)
    → AllByRecursion BeginsWithTxProfile deeds
    → AreInStepBut (exempt_after_call before deeds ids) own (rows_after_call before deeds rows)
    → AreInStepBut (exempt_after_call (suc before) deeds ids)
    (obeyed_call moment (slice_get (filter_map call_of deeds) before) own)
    (rows_after_call (suc before) deeds rows)
next_call [] zero ids own rows moment tx same = same
next_call [] (suc before) ids own rows moment tx same = same
next_call (deed ∷ later) before ids own rows moment tx same =
    by (λ n. next_call later n exempt own next moment tx.1) (call_of deed) refl before same
  where
    next : List Row
    next = rows_after rows deed

    exempt : List ℤ
    exempt = exempt_after ids deed

    calls : List CallBody
    calls = filter_map call_of later

    -- in step after the deed and those that follow up to a call
    So : ℕ → List Row → Type 0
    So count rows = AreInStepBut (exempt_after_call count later exempt) rows
        (rows_after_call count later next)

    -- the call, where the deed makes one or not
    Then : Option CallBody → ℕ → Type 0
    Then c count = So (cond (is_some c) count (suc count))
        (obeyed_call moment (slice_get (cons_option c calls) count) own)

    by : ((n : ℕ) → So n own → So (suc n) (obeyed_call moment (slice_get calls n) own))
        → (call : Option CallBody) → call_of deed ≡ call → (count : ℕ)
        → AreInStepBut (exempt_after_call count (deed ∷ later) ids) own
        (rows_after_call count (deed ∷ later) rows)
        → Then (call_of deed) count
    by rest (Some body) has zero same =
        let done = in_step_with_call deed ids own rows moment
        (ap (λ (c : Option CallBody). is_some c) has) same in
        subst (λ (c : Option CallBody). Then c 0) (sym has)
        (subst (λ (c : Option CallBody). AreInStepBut exempt (obeyed_call moment c own) next) has
        done)
    by rest (Some body) has (suc count) same =
        subst (λ (c : Option CallBody). Then c (suc count)) (sym has)
        (rest count (subst (λ (c : Option CallBody). So (cond (is_some c) count (suc count)) own)
        has same))
    by rest None has zero same =
        subst (λ (c : Option CallBody). Then c 0) (sym has)
        (rest 0 (in_step_without_call deed ids own rows tx.0
        (ap (λ (c : Option CallBody). is_some c) has) same))
    by rest None has (suc count) same =
        subst (λ (c : Option CallBody). Then c (suc count)) (sym has)
        (rest (suc count)
        (subst (λ (c : Option CallBody). So (cond (is_some c) count (suc count)) own) has same))

-- ---- the point

-- in step with the central system when it made the call of this number
abbrev AreAt : ℕ → List Deed → List Row → Type 0
AreAt number deeds own =
    AreInStepBut (exempt_after_call number deeds []) own (rows_after_call number deeds [])

-- call 0 leaves no lasting rows
cleared_all : (rows : List Row) → lasting_but [] (cleared rows every_profile) ≡ []
cleared_all rows = ap (lasting_but []) (filter_none rows)

-- the same call again
obeyed_again : (moment number : ℕ) (deeds : List Deed) (rows : List Row) → AreAt number deeds rows
    → AreAt number deeds (obeyed_call moment (slice_get (calls_of deeds) number) rows)
obeyed_again moment zero deeds rows same = cleared_all rows
obeyed_again moment (suc before) deeds rows same =
    let call = slice_get (filter_map call_of deeds) before in
    let ids = exempt_after_call (suc before) deeds [] in
    lasting_obeyed ids moment call rows ∙ ap (on_lasting ids call) same
    ∙ call_again ids deeds before []

obeyed_one : (moment before number : ℕ) (deeds : List Deed) (rows : List Row)
    → AllByRecursion BeginsWithTxProfile deeds → (number ≡ before) ⊎ (number ≡ before + 1)
    → AreAt before deeds rows
    → AreAt number deeds (obeyed_call moment (slice_get (calls_of deeds) number) rows)
obeyed_one moment before number deeds rows tx (inl e) same =
    obeyed_again moment number deeds rows
    (subst (λ (n : ℕ). AreAt n deeds rows) (sym e) same)
obeyed_one moment before number deeds rows tx (inr e) same =
    let next : suc before ≡ number = omega arith in
    subst (λ (n : ℕ). AreAt n deeds (obeyed_call moment (slice_get (calls_of deeds) n) rows)) next
    (next_call deeds before [] rows [] moment tx same)

obeyed_all : (later : List Obeying) (before : ℕ) (deeds : List Deed) (rows : List Row)
    → AllByRecursion BeginsWithTxProfile deeds → GoesOn before (numbers_of later)
    → AreAt before deeds rows
    → AreAt (last_number before later) deeds (obeyed (calls_of deeds) later rows)
obeyed_all [] before deeds rows tx goes same = same
obeyed_all (obeying ∷ later) before deeds rows tx goes same =
    obeyed_all later obeying.number deeds (obeyed_call obeying.moment (slice_get
    (calls_of deeds) obeying.number) rows) tx goes.1
    (obeyed_one obeying.moment before obeying.number deeds rows tx goes.0 same)

pub stays_in_step : StaysInStep
stays_in_step deeds first later rows tx order =
    obeyed_all later first.number deeds (obeyed_call first.moment (slice_get
    (calls_of deeds) first.number) rows) tx order.1
    (subst (λ (n : ℕ). AreAt n deeds (obeyed_call first.moment (slice_get
    (calls_of deeds) n) rows)) (sym order.0) (cleared_all rows))
