-- One more member: its value counts if its key is a text.
use Rattle.std.proofs.Common.{◌≡◌, ℕ, List, codes, Option, Some, None, unwrap_or, sym, ap, ◌∙◌, subst}
use Rattle.json.specs.Token.{Token}
use Rattle.ocppj_frame.specs.Read.{name_of_key}
use Rattle.ocppj_frame.specs.Tree.{Tree, null, Fields, field_at}
use Rattle.site_rules.specs.declared.reading.glance.Glance.{Glance}
use Rattle.site_rules.specs.declared.reading.entry.PointFields.{PointFields}
use Rattle.site_rules.specs.declared.reading.whole.SiteFields.{SiteFields}
use Rattle.site_rules.specs.ByCases.Parts.{shown, IsGlanceAt, IsPutBy, connectors_in, points_in, ArePointFields, AreSiteFields, IsPointFieldMore, IsPointMemberMore, IsSiteFieldMore, IsSiteMemberMore}

-- the same fields
abbrev AreSame : Fields → Fields → Type 0
AreSame before after = (other : List ℕ) → field_at other after ≡ field_at other before

same_point : (point : PointFields) (before after : Fields) → AreSame before after → ArePointFields point before → ArePointFields point after
same_point point before after same are = record {
  id = are.id ∙ ap (λ (o : Option Tree). shown (unwrap_or o null)) (sym (same (codes "id")));
  ceiling = are.ceiling ∙ ap (λ (o : Option Tree). shown (unwrap_or o null)) (sym (same (codes "ceiling")));
  connectors = are.connectors ∙ ap (λ (o : Option Tree). connectors_in (unwrap_or o null)) (sym (same (codes "connectors")));
}

same_site : (site : SiteFields) (before after : Fields) → AreSame before after → AreSiteFields site before → AreSiteFields site after
same_site site before after same are = record {
  unit = are.unit ∙ ap (λ (o : Option Tree). shown (unwrap_or o null)) (sym (same (codes "unit")));
  points = are.points ∙ ap (λ (o : Option Tree). points_in (unwrap_or o null)) (sym (same (codes "points")));
}

module _ (depth : ℕ) (tokens rest : List Token) (key : List ℕ) where
  pub point_named : (name : List ℕ) (point more : PointFields) → name_of_key key ≡ Some name → IsPointFieldMore depth tokens rest name point more
      → IsPointMemberMore depth tokens rest key point more
  point_named name point more named h = record {
    tree = h.tree;
    here = h.here;
    fields = λ before after are put. h.fields before after are (subst (λ (o : Option (List ℕ)). IsPutBy o h.tree before after) named put);
  }

  pub point_unnamed : (glance : Glance) (point : PointFields) → name_of_key key ≡ None → IsGlanceAt depth tokens rest glance
      → IsPointMemberMore depth tokens rest key point point
  point_unnamed glance point unnamed h = record {
    tree = h.tree;
    here = h.here;
    fields = λ before after are put. same_point point before after (subst (λ (o : Option (List ℕ)). IsPutBy o h.tree before after) unnamed put) are;
  }

  pub site_named : (name : List ℕ) (site more : SiteFields) → name_of_key key ≡ Some name → IsSiteFieldMore depth tokens rest name site more
      → IsSiteMemberMore depth tokens rest key site more
  site_named name site more named h = record {
    tree = h.tree;
    here = h.here;
    fields = λ before after are put. h.fields before after are (subst (λ (o : Option (List ℕ)). IsPutBy o h.tree before after) named put);
  }

  pub site_unnamed : (glance : Glance) (site : SiteFields) → name_of_key key ≡ None → IsGlanceAt depth tokens rest glance
      → IsSiteMemberMore depth tokens rest key site site
  site_unnamed glance site unnamed h = record {
    tree = h.tree;
    here = h.here;
    fields = λ before after are put. same_site site before after (subst (λ (o : Option (List ℕ)). IsPutBy o h.tree before after) unnamed put) are;
  }
