-- The library's date of the number is the day that counting from 1970 reaches.
use Rattle.std.proofs.Common.{◌≡◌, pos, arith}
use Rattle.std.proofs.lemmas.Int.{ints}
use Rattle.jiff_core.specs.Date.{epoch_day}
use Rattle.ocpp_scalars.proofs.Calendar.{same_day, calendar_day-year}
use Rattle.ocpp_scalars.proofs.writing.civil_date.Goals as goal

pub overflow_cast-result : goal.overflow_cast-result
overflow_cast-result c =
    let known = rw c.unwrap-date.ensures at c.from_unix_epoch_day.ensures.value in
    let number : epoch_day c.unwrap-date.result ≡ pos c.args.day = omega (arith, ints, known) in
    let same = same_day c.unwrap-date.result c.args.day c.requires number in
    search (arith, ints, same, calendar_day-year c.args.day c.requires)

pub returns-clause-year : goal.returns-clause-year
returns-clause-year c =
    let known = rw c.unwrap-date.ensures at c.from_unix_epoch_day.ensures.value in
    let number : epoch_day c.unwrap-date.result ≡ pos c.args.day = omega (arith, ints, known) in
    let same = same_day c.unwrap-date.result c.args.day c.requires number in
    omega (arith, ints, same.0, calendar_day-year c.args.day c.requires)

pub returns-clause-month : goal.returns-clause-month
returns-clause-month c =
    let known = rw c.unwrap-date.ensures at c.from_unix_epoch_day.ensures.value in
    let number : epoch_day c.unwrap-date.result ≡ pos c.args.day = omega (arith, ints, known) in
    (same_day c.unwrap-date.result c.args.day c.requires number).1

pub returns-clause-day : goal.returns-clause-day
returns-clause-day c =
    let known = rw c.unwrap-date.ensures at c.from_unix_epoch_day.ensures.value in
    let number : epoch_day c.unwrap-date.result ≡ pos c.args.day = omega (arith, ints, known) in
    (same_day c.unwrap-date.result c.args.day c.requires number).2
