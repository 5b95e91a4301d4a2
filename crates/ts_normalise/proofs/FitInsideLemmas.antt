-- All that stands inside a token is inside of it, so that a token holds no content of a repetition.
use Rattle.std.proofs.Common.{◌≡◌, ◌∙◌, sym, ap, subst, refl, ◌⊎◌, ⊎_elim, Bool, true, false, List, [], ◌∷◌, map}
use Rattle.std.specs.List.{Contains}
use Rattle.std.proofs.lemmas.List.Elements.{Contains-append_cases}
use Rattle.ts_core.specs.declared.rule.Rule.{Rule}
use Rattle.ts_core.specs.declared.rule.Rule.TheBlock.{the_family, member-Rule}
use Rattle.ts_core.specs.declared.rule.Rule.TheFolds.{ind-Rule, map-Rule, claims}
use Rattle.ts_core.specs.declared.rule.Rule.TheOpen.{Rule-F}
use Rattle.ts_core.specs.declared.rule.Rule.TheViews.{roll-Rule, out-Rule, roll-out-Rule}
use Rattle.ts_rules.specs.Sights.{Sight, SeenBelow, seen_all, below, below_step, sights, sights_within, contents_in, content_at, content_layer, is_token, is_token_layer}
use Rattle.ts_normalise.proofs.ListLemmas.{none_in, member_cases, in_flat}
use Rattle.ts_normalise.proofs.InsideLemmas.{seen_below, below_roll}
use denote.Hole.Holds.{Such}

abbrev AllInside : List Sight → Type 0
AllInside all = (s : Sight) → Contains all s → s.inside ≡ true

abbrev IsInside : Rule → Type 0
IsInside t = AllInside (sights_within t true)

abbrev Child : Type 0
Child = Such the_family (claims IsInside) member-Rule

abbrev inner : Child → Rule
inner child = child.0

inside_of : (e : Child) → AllInside (sights_within (inner e) true)
inside_of e = let k : IsInside e.0 = e.1 in k

all_inside : (es : List Child) → AllInside (seen_all (map seen_below (map inner es)) true)
all_inside [] s w = absurd (none_in s w)
all_inside (e ∷ es) s w = ⊎_elim (λ here. inside_of e s here) (λ later. all_inside es s later)
    (Contains-append_cases (sights_within (inner e) true) (seen_all (map seen_below (map inner es)) true) s w)

none_inside : AllInside []
none_inside s w = absurd (none_in s w)

layer_inside : (y : Rule-F Child) → AllInside (below_step (map-Rule Rule SeenBelow seen_below (map-Rule Child Rule inner y)) true)
layer_inside Rule-F.Blank = none_inside
layer_inside (Rule-F.Literal text) = none_inside
layer_inside (Rule-F.Pattern value ignore_case) = none_inside
layer_inside (Rule-F.Symbol name) = none_inside
layer_inside (Rule-F.Seq es) = all_inside es
layer_inside (Rule-F.Choice es) = all_inside es
layer_inside (Rule-F.Repeat e) = inside_of e
layer_inside (Rule-F.Repeat1 e) = inside_of e
layer_inside (Rule-F.Token e) = inside_of e
layer_inside (Rule-F.ImmediateToken e) = inside_of e
layer_inside (Rule-F.Field name e) = inside_of e
layer_inside (Rule-F.Alias e named value) = inside_of e
layer_inside (Rule-F.Prec value e) = inside_of e
layer_inside (Rule-F.PrecLeft value e) = inside_of e
layer_inside (Rule-F.PrecRight value e) = inside_of e
layer_inside (Rule-F.PrecDynamic value e) = inside_of e

rolled_inside : (y : Rule-F Child) → IsInside (roll-Rule (map-Rule Child Rule inner y))
rolled_inside y s w =
    let x = map-Rule Child Rule inner y in
    let top : Sight = record { tree = roll-Rule x; inside = true } in
    ⊎_elim
    (λ e. ap (λ (z : Sight). z.inside) e)
    (λ later. layer_inside y s (subst (λ (all : List Sight). Contains all s) (below_roll x true) later))
    (member_cases top s (below (roll-Rule x) true) w)

tree_inside : (t : Rule) → AllInside (sights_within t true)
tree_inside t = ind-Rule IsInside (λ x y e. subst (λ (z : Rule-F Rule). IsInside (roll-Rule z)) e (rolled_inside y)) t

-- ---- contents

no_content : (s : Sight) (c : Rule) → s.inside ≡ true → Contains (content_at s.tree s.inside) c → ⊥
no_content s c e w = none_in c (subst (λ (b : Bool). Contains (content_at s.tree b) c) e w)

-- a token holds no content
pub token_empty : (t : Rule) (c : Rule) → is_token t ≡ true → Contains (contents_in (sights t)) c → ⊥
token_empty t c token w =
    let r = in_flat (λ (s : Sight). content_at s.tree s.inside) (sights t) c w in
    by (out-Rule t) refl r.0 r.2 (member_cases (record { tree = t; inside = false }) r.0 (below t false) r.1)
  where
    is_top : (layer : Rule-F Rule) → out-Rule t ≡ layer → (s : Sight) → s ≡ record { tree = t; inside = false } → Contains (content_at s.tree s.inside) c → Contains (content_layer layer) c
    is_top layer e s is at = subst (λ (z : Rule-F Rule). Contains (content_layer z) c) e (subst (λ (z : Sight). Contains (content_at z.tree z.inside) c) is at)

    under : (layer : Rule-F Rule) → out-Rule t ≡ layer → (s : Sight) → Contains (below t false) s → Contains (below_step (map-Rule Rule SeenBelow seen_below layer) false) s
    under layer e s v = subst (λ (all : List Sight). Contains all s) (ap (λ (z : Rule). below z false) (sym (roll-out-Rule t) ∙ ap roll-Rule e) ∙ below_roll layer false) v

    other : (layer : Rule-F Rule) → out-Rule t ≡ layer → is_token_layer layer ≡ false → ⊥
    other layer e no_token = let h : false ≡ true = sym no_token ∙ ap (λ (z : Rule-F Rule). is_token_layer z) (sym e) ∙ token in cc

    by : (layer : Rule-F Rule) → out-Rule t ≡ layer → (s : Sight) → Contains (content_at s.tree s.inside) c → (s ≡ record { tree = t; inside = false }) ⊎ Contains (below t false) s → ⊥
    by (Rule-F.Literal text) e s at place = ⊎_elim (λ is. none_in c (is_top (Rule-F.Literal text) e s is at)) (λ v. none_in s (under (Rule-F.Literal text) e s v)) place
    by (Rule-F.Pattern value ignore_case) e s at place =
        ⊎_elim (λ is. none_in c (is_top (Rule-F.Pattern value ignore_case) e s is at)) (λ v. none_in s (under (Rule-F.Pattern value ignore_case) e s v)) place
    by (Rule-F.Token d) e s at place =
        ⊎_elim (λ is. none_in c (is_top (Rule-F.Token d) e s is at)) (λ v. no_content s c (tree_inside d s (under (Rule-F.Token d) e s v)) at) place
    by (Rule-F.ImmediateToken d) e s at place =
        ⊎_elim (λ is. none_in c (is_top (Rule-F.ImmediateToken d) e s is at)) (λ v. no_content s c (tree_inside d s (under (Rule-F.ImmediateToken d) e s v)) at) place
    by Rule-F.Blank e s at place = other Rule-F.Blank e refl
    by (Rule-F.Symbol name) e s at place = other (Rule-F.Symbol name) e refl
    by (Rule-F.Seq members) e s at place = other (Rule-F.Seq members) e refl
    by (Rule-F.Choice members) e s at place = other (Rule-F.Choice members) e refl
    by (Rule-F.Repeat d) e s at place = other (Rule-F.Repeat d) e refl
    by (Rule-F.Repeat1 d) e s at place = other (Rule-F.Repeat1 d) e refl
    by (Rule-F.Field name d) e s at place = other (Rule-F.Field name d) e refl
    by (Rule-F.Alias d named value) e s at place = other (Rule-F.Alias d named value) e refl
    by (Rule-F.Prec value d) e s at place = other (Rule-F.Prec value d) e refl
    by (Rule-F.PrecLeft value d) e s at place = other (Rule-F.PrecLeft value d) e refl
    by (Rule-F.PrecRight value d) e s at place = other (Rule-F.PrecRight value d) e refl
    by (Rule-F.PrecDynamic value d) e s at place = other (Rule-F.PrecDynamic value d) e refl
