-- The clauses of clap on a command line, for this program's command.
use Rattle.std.proofs.Common.{◌≡◌, ℕ, ◌<◌, ◌^◌, List, [], ◌∷◌, inl, inr, Option, Some, None, IfSome, Result, Ok, Err, option_map, true, false, refl, sym, ap, ◌∙◌, subst}
use Rattle.std.specs.Str.Parse.{IsNumeral, ParsesUnsigned, digits_value, without_leading_plus}
use Rattle.clap.specs.Kinds.{or_else}
use Rattle.clap.specs.Words.{App, HasKind, HasMatchesOf, IsAmong, Kinds, kind_of, Row, Text, fault_of, is_simple, is_simple_and_free, subcommand_of, subcommand_rows_of}
use Rattle.clap.specs.Matches.{ReadsOne, subcommand_name_of}
use Rattle.clap.specs.declared.error.Error.{Error}
use Rattle.clap.specs.declared.error.kind.ErrorKind.{ErrorKind}
use Rattle.clap.specs.declared.error.kind.ErrorKind.TheVariants.{ArgumentConflict}
use Rattle.clap.specs.declared.parser.matches.ArgMatches.{ArgMatches}
use Rattle.clap.specs.declared.parser.matches.ArgMatches.TheViews.{out-ArgMatches}
use Rattle.clap.proofs.OnLiterals.{clap_on_literals}
use Rattle.command_line.specs.CommandLine.{central_app, has_two_scripts, line_faults, script_faults, subcommand_named}

central_is_free : is_simple_and_free central_app ≡ true
unfolding central_app clap_on_literals
central_is_free = refl

-- clap's clause on the faults of words, for this program's command
fault_as : (app : App) (words : List Text) (P : Kinds → Type 0) → app ≡ central_app → (is_simple_and_free app ≡ true → P (fault_of app words)) → P (fault_of central_app words)
fault_as app words P same fails = subst (λ (a : App). P (fault_of a words)) same (fails (ap is_simple_and_free same ∙ central_is_free))

among_first : (k : ErrorKind) (kinds next : Kinds) → IsAmong k kinds → IsAmong k (or_else kinds next)
among_first k [] next h = absurd h
among_first k (x ∷ xs) next h = h

kind_of_first : (kinds next : Kinds) (e : Error) → HasKind kinds e → HasKind (or_else kinds next) e
kind_of_first kinds next e (inl memory) = inl memory
kind_of_first kinds next e (inr among) = inr (among_first _ kinds next among)

-- an error of clap is one of the line
pub fails_as : (app : App) (words : List Text) (e : Error) → app ≡ central_app → (is_simple_and_free app ≡ true → HasKind (fault_of app words) e) → HasKind (line_faults words) e
unfolding line_faults
fails_as app words e same fails = kind_of_first _ _ e (fault_as app words (λ kinds. HasKind kinds e) same fails)

second : (kinds next : Kinds) → kinds ≡ [] → or_else kinds next ≡ next
second kinds next none = rw none refl

-- if clap accepts the words, the line's faults are those of its scripts
pub faults_of_scripts : (app : App) (words : List Text) (met : Option (Text × List Row)) → app ≡ central_app
    → (is_simple_and_free app ≡ true → fault_of app words ≡ []) → met ≡ subcommand_named words → line_faults words ≡ script_faults met
unfolding line_faults
faults_of_scripts app words met same taken named =
    second _ _ (fault_as app words (λ (kinds : Kinds). kinds ≡ []) same taken) ∙ ap script_faults (sym named)

pub none_of_one : (name : Text) (rows : List Row) → has_two_scripts rows ≡ false → script_faults (Some (name, rows)) ≡ []
none_of_one name rows one = rw one refl

pub conflict_of_two : (name : Text) (rows : List Row) → has_two_scripts rows ≡ true → script_faults (Some (name, rows)) ≡ ArgumentConflict ∷ []
conflict_of_two name rows two = rw two refl

pub has_conflict : (kinds : Kinds) (e : Error) → kinds ≡ ArgumentConflict ∷ [] → kind_of e ≡ ArgumentConflict → HasKind kinds e
has_conflict kinds e same is = subst (λ (k : Kinds). HasKind k e) (sym same) (inr (inl is))

central_is_simple : is_simple central_app ≡ true
unfolding central_app clap_on_literals
central_is_simple = refl

-- the subcommand that clap found is the one that the words name
pub met_is_named : (app : App) (words : List Text) (all : ArgMatches) → app ≡ central_app → HasMatchesOf app words all
    → subcommand_rows_of all ≡ subcommand_named words
unfolding subcommand_named
met_is_named app words all same read =
    (read (ap is_simple same ∙ central_is_simple)).1 ∙ ap (λ (a : App). subcommand_of a words) same

paired : {A : Type 0} (f : A → Text) (g : A → List Row) (met : Option A) (both : Option (Text × List Row)) (name : Text) (rows : List Row)
    → both ≡ option_map {U = Text × List Row} (λ a. (f a, g a)) met → Some name ≡ option_map f met
    → Some rows ≡ option_map (λ (p : Text × List Row). p.1) both → both ≡ Some (name, rows)
paired f g None both name rows same named given = absurd (cc)
paired f g (Some met) both name rows same named given =
    let same_name : name ≡ f met = cc in
    let same_rows : rows ≡ g met = cc in
    rw (same, same_name, same_rows) refl

-- the name and the options of the subcommand that clap found, together
pub met_with : (all : ArgMatches) (name : Text) (rows : List Row) → Some name ≡ subcommand_name_of all
    → Some rows ≡ option_map (λ p. p.1) (subcommand_rows_of all) → subcommand_rows_of all ≡ Some (name, rows)
met_with all name rows named given = paired _ _ (out-ArgMatches all).subcommand (subcommand_rows_of all) name rows refl named given

-- the number that clap reads is that of the option's text
pub number_read : {E : Type 0} (gives : Text → Result ℕ E → Type 0) → ((text : Text) (r : Result ℕ E) → gives text r → ParsesUnsigned 64 10 text r)
    → (found text : Option Text) (number : Option ℕ) → found ≡ text → (found ≡ None → number ≡ None)
    → ((t : Text) → found ≡ Some t → ReadsOne gives t number)
    → IfSome number (λ n. (t : Text) × (text ≡ Some t) × IsNumeral 10 (without_leading_plus t) × (n ≡ digits_value 10 (without_leading_plus t)))
number_read gives unsigned found text None same none value = tt
number_read gives unsigned None text (Some n) same none value =
    let never : Some n ≡ None = none refl in
    absurd (cc)
number_read gives unsigned (Some t) text (Some n) same none value =
    let read = unsigned t (Ok n) (value t refl) in
    (t, sym same, read.0.0, read.1)

-- a numeral that fits is read, and its number is that of the option's text
pub number_given : {E : Type 0} (gives : Text → Result ℕ E → Type 0) → ((text : Text) (r : Result ℕ E) → gives text r → ParsesUnsigned 64 10 text r)
    → (found text : Option Text) (number : Option ℕ) → found ≡ text → ((t : Text) → found ≡ Some t → ReadsOne gives t number)
    → (t : Text) → text ≡ Some t → IsNumeral 10 (without_leading_plus t) → digits_value 10 (without_leading_plus t) < 2 ^ 64
    → number ≡ Some (digits_value 10 (without_leading_plus t))
number_given gives unsigned found text None same value t is numeral fits =
    let read = value t (same ∙ is) in
    absurd (unsigned t (Err read.0) read.1 (numeral, fits))
number_given gives unsigned found text (Some n) same value t is numeral fits = ap Some (unsigned t (Ok n) (value t (same ∙ is))).1
