-- A value is skipped by its tokens: those of a list or an object one after another.
use Rattle.std.proofs.Common.{◌≡◌, ◌<◌, ◌∷◌, length, Some, None, refl, sym, ap, subst, arith}
use Rattle.json.specs.Json.{after_end_array, read_key}
use Rattle.json.specs.Reads.{token_of}
use Rattle.json.specs.Token.{Token}
use Rattle.json.proofs.Grammar.{read_key-shorter}
use Rattle.ocppj_frame.specs.Tree.{list, object}
use Rattle.site_rules.specs.declared.reading.glance.Glance.TheVariants as glances
use Rattle.site_rules.specs.ByCases.Parts.{IsGlanceAt}
use Rattle.site_rules.proofs.GlanceTrees.{null_glance, boolean_glance, string_glance}
use Rattle.site_rules.proofs.TokenTrees.{list_opened, list_more, list_ended, fields_opened, object_begun, object_more, object_ended}
use Rattle.site_rules.proofs.reading.glance.+glance.Goals as goal

pub glance_from-returns-in-String-clause-glance : goal.glance_from-returns-in-String-clause-glance
glance_from-returns-in-String-clause-glance t c =
    let is : token_of c.args.token ≡ Token.string c.in-String.marked.now = ap token_of c.in-String.is in
    subst (λ (token : Token). IsGlanceAt c.args.depth (token ∷ c.args.reader.now) c.args.reader.now c.glance_of_string.result) (sym is)
    (string_glance c.args.depth c.args.reader.now c.in-String.marked.now c.glance_of_string.result c.glance_of_string.ensures)

pub glance_from-returns-in-Bool-clause-glance : goal.glance_from-returns-in-Bool-clause-glance
glance_from-returns-in-Bool-clause-glance t c =
    subst (λ (token : Token). IsGlanceAt c.args.depth (token ∷ c.args.reader.now) c.args.reader.now glances.Bool) (sym (ap token_of c.in-Bool.is))
    (boolean_glance c.args.depth c.args.reader.now c.in-Bool.field-0)

pub glance_from-returns-in-Null-clause-glance : goal.glance_from-returns-in-Null-clause-glance
glance_from-returns-in-Null-clause-glance t c =
    subst (λ (token : Token). IsGlanceAt c.args.depth (token ∷ c.args.reader.now) c.args.reader.now glances.Null) (sym (ap token_of c.in-Null.is))
    (null_glance c.args.depth c.args.reader.now)

pub glance_from-returns-in_ok-pass_items-in-BeginArray-clause-glance : goal.glance_from-returns-in_ok-pass_items-in-BeginArray-clause-glance
glance_from-returns-in_ok-pass_items-in-BeginArray-clause-glance t c =
    let passed = c.in_ok-pass_items-in-BeginArray.ensures.items in
    let opens : token_of c.args.token ∷ c.args.reader.now ≡ Token.begin_array ∷ c.args.reader.now = ap (λ token. token_of token ∷ c.args.reader.now) c.in-BeginArray.is in
    record {
      tree = list passed.0;
      here = list_opened c.args.depth _ c.args.reader.now c.pass_items.new.reader passed.0 (omega arith) opens passed.1;
      seen = refl;
    }

pub glance_from-returns-in_ok-pass_members-in-BeginObject-clause-glance : goal.glance_from-returns-in_ok-pass_members-in-BeginObject-clause-glance
glance_from-returns-in_ok-pass_members-in-BeginObject-clause-glance t c =
    let passed = c.in_ok-pass_members-in-BeginObject.ensures.members in
    let opens : token_of c.args.token ∷ c.args.reader.now ≡ Token.begin_object ∷ c.args.reader.now = ap (λ token. token_of token ∷ c.args.reader.now) c.in-BeginObject.is in
    record {
      tree = object passed.0;
      here = fields_opened c.args.depth _ c.args.reader.now c.pass_members.new.reader passed.0 (omega arith) opens passed.1;
      seen = refl;
    }

pub pass_items-items-preserved : goal.pass_items-items-preserved
pass_items-items-preserved t c =
    let l = c.items in
    let going : (after_end_array l.reader ≡ None) × (c.take_end_array.new.self ≡ l.reader) = grind arith in
    let passed = c.in_ok-read_glance.ensures in
    let less : length c.read_glance.new.reader < length l.reader = rw (← going.1) passed.shorter in (
      _,
      list_more c.args.depth c.args.reader.now l.reader c.read_glance.new.reader l.invariant.0 passed.glance.tree l.invariant.1 going.0 (rw (← going.1) passed.glance.here) less,
      omega (arith, l.invariant.2),
    )

pub pass_items-returns-clause-items : goal.pass_items-returns-clause-items
pass_items-returns-clause-items t c =
    let l = c.items in
    let ended = list_ended c.args.depth c.args.reader.now l.reader c.take_end_array.new.self l.invariant.0 l.invariant.1 (grind arith) in
    (ended.0, ended.1)

pub pass_members-members-init : goal.pass_members-members-init
pass_members-members-init t c = (_, object_begun c.args.depth c.args.reader.now, omega arith)

pub pass_members-members-preserved : goal.pass_members-members-preserved
pass_members-members-preserved t c =
    let l = c.members in
    let key = c.in-Some.field-0.now in
    let keyed : read_key l.reader ≡ Some (Some key, c.next_key.new.self) = grind arith in
    let passed = c.in_ok-read_glance.ensures in
    let more = object_more c.args.depth c.args.reader.now l.reader c.next_key.new.self c.read_glance.new.reader l.invariant.0 key passed.glance.tree
    l.invariant.1 keyed passed.glance.here passed.shorter in
    let less = read_key-shorter l.reader (Some key) c.next_key.new.self keyed in
    let lesser = passed.shorter in
    (more.more, more.sofar, omega (arith, l.invariant.2))

pub pass_members-returns-clause-members : goal.pass_members-returns-clause-members
pass_members-returns-clause-members t c =
    let l = c.members in
    (l.invariant.0, object_ended c.args.depth c.args.reader.now l.reader c.next_key.new.self l.invariant.0 l.invariant.1 (grind arith))
