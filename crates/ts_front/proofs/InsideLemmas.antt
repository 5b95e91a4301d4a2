-- What stands in a rule tree, or in a tree inside it: all that is seen of the inner tree is seen of the
-- whole.
use Rattle.std.proofs.Common.{◌≡◌, ◌∙◌, sym, ap, subst, refl, Bool, true, false, ⊎_elim, List, [], ◌∷◌, map}
use Rattle.std.specs.List.{Contains}
use Rattle.std.proofs.lemmas.List.Elements.{Contains-append_left, Contains-append_right, Contains-append_cases}
use Rattle.ts_core.specs.declared.rule.Grammar.{Grammar}
use Rattle.ts_core.specs.declared.rule.Rule.{Rule}
use Rattle.ts_core.specs.declared.rule.Rule.TheBlock.{the_family, member-Rule}
use Rattle.ts_core.specs.declared.rule.Rule.TheFolds.{ind-Rule, map-Rule, claims, para-roll-Rule}
use Rattle.ts_core.specs.declared.rule.Rule.TheOpen.{Rule-F}
use Rattle.ts_core.specs.declared.rule.Rule.TheViews.{roll-Rule, out-Rule, roll-out-Rule}
use Rattle.ts_rules.specs.Sights.{NamedRule, Sight, SeenBelow, seen_all, below, below_step, sights, sights_within, rule_sights, tokens_in, token_at, if_token, is_token, contents_in, content_at, content_layer}
use Rattle.ts_front.proofs.MemberLemmas.{none_in, tail_in, member_cases, flat_in, in_flat}
use denote.Hole.Holds.{Such}

abbrev pub seen_below : Rule → SeenBelow
seen_below r = (r, below r)

abbrev pub top_of : Rule → Bool → Sight
top_of t inside = record { tree = t; inside = inside }

-- all that is seen of any sight of the list is in the list
abbrev pub IsClosed : List Sight → Type 0
IsClosed all = (s : Sight) → Contains all s → (v : Sight) → Contains (sights_within s.tree s.inside) v → Contains all v

-- ---- a tree is closed

abbrev Closes : Rule → Type 0
Closes t = (inside : Bool) → IsClosed (sights_within t inside)

abbrev Child : Type 0
Child = Such the_family (claims Closes) member-Rule

abbrev inner : Child → Rule
inner child = child.0

closes : (e : Child) (inside : Bool) → IsClosed (sights_within (inner e) inside)
closes e inside = let k : Closes e.0 = e.1 in k inside

all_closed : (es : List Child) (inside : Bool) → IsClosed (seen_all (map seen_below (map inner es)) inside)
all_closed [] inside s w v u = absurd (none_in s w)
all_closed (e ∷ es) inside s w v u = ⊎_elim
    (λ here. Contains-append_left (sights_within (inner e) inside) (seen_all (map seen_below (map inner es)) inside) v (closes e inside s here v u))
    (λ later. Contains-append_right (sights_within (inner e) inside) (seen_all (map seen_below (map inner es)) inside) v (all_closed es inside s later v u))
    (Contains-append_cases (sights_within (inner e) inside) (seen_all (map seen_below (map inner es)) inside) s w)

layer_closed : (y : Rule-F Child) (inside : Bool) → IsClosed (below_step (map-Rule Rule SeenBelow seen_below (map-Rule Child Rule inner y)) inside)
layer_closed Rule-F.Blank inside = λ s w v u. absurd (none_in s w)
layer_closed (Rule-F.Literal text) inside = λ s w v u. absurd (none_in s w)
layer_closed (Rule-F.Pattern value ignore_case) inside = λ s w v u. absurd (none_in s w)
layer_closed (Rule-F.Symbol name) inside = λ s w v u. absurd (none_in s w)
layer_closed (Rule-F.Seq es) inside = all_closed es inside
layer_closed (Rule-F.Choice es) inside = all_closed es inside
layer_closed (Rule-F.Repeat e) inside = closes e inside
layer_closed (Rule-F.Repeat1 e) inside = closes e inside
layer_closed (Rule-F.Token e) inside = closes e true
layer_closed (Rule-F.ImmediateToken e) inside = closes e true
layer_closed (Rule-F.Field name e) inside = closes e inside
layer_closed (Rule-F.Alias e named value) inside = closes e inside
layer_closed (Rule-F.Prec value e) inside = closes e inside
layer_closed (Rule-F.PrecLeft value e) inside = closes e inside
layer_closed (Rule-F.PrecRight value e) inside = closes e inside
layer_closed (Rule-F.PrecDynamic value e) inside = closes e inside

pub below_roll : (x : Rule-F Rule) (inside : Bool) → below (roll-Rule x) inside ≡ below_step (map-Rule Rule SeenBelow seen_below x) inside
below_roll x inside = ap (λ (f : Bool → List Sight). f inside) (para-roll-Rule (Bool → List Sight) below_step x)

top_closed : (top : Sight) (rest : List Sight) → sights_within top.tree top.inside ≡ top ∷ rest → IsClosed rest → IsClosed (top ∷ rest)
top_closed top rest is closed s w v u = ⊎_elim
    (λ e. subst (λ (all : List Sight). Contains all v) (ap (λ (z : Sight). sights_within z.tree z.inside) e ∙ is) u)
    (λ later. tail_in top v rest (closed s later v u))
    (member_cases top s rest w)

rolled_closed : (y : Rule-F Child) → Closes (roll-Rule (map-Rule Child Rule inner y))
rolled_closed y inside =
    let t = roll-Rule (map-Rule Child Rule inner y) in
    top_closed (top_of t inside) (below t inside) refl
    (subst (λ (all : List Sight). IsClosed all) (sym (below_roll (map-Rule Child Rule inner y) inside)) (layer_closed y inside))

pub tree_closed : (t : Rule) (inside : Bool) → IsClosed (sights_within t inside)
tree_closed t = ind-Rule Closes (λ x y e. subst (λ (z : Rule-F Rule). Closes (roll-Rule z)) e (rolled_closed y)) t

-- ---- all rules are closed

pub rule_seen : (g : Grammar) (rule : NamedRule) → Contains g.rules rule → (s : Sight) → Contains (sights rule.1) s → Contains (rule_sights g) s
rule_seen g rule w s v = flat_in (λ (r : NamedRule). sights r.1) g.rules rule s w v

pub rules_closed : (g : Grammar) → IsClosed (rule_sights g)
rules_closed g s w v u =
    let r = in_flat (λ (rule : NamedRule). sights rule.1) g.rules s w in
    rule_seen g r.0 r.1 v (tree_closed r.0.1 false s r.2 v u)

-- what is seen of a token of the rules
pub token_seen : (g : Grammar) (t : Rule) → Contains (tokens_in (rule_sights g)) t → (v : Sight) → Contains (sights t) v → Contains (rule_sights g) v
token_seen g t w v u =
    let r = in_flat (λ (s : Sight). token_at s.tree s.inside) (rule_sights g) t w in
    by r.0 r.0.inside (is_token r.0.tree) refl refl r.1 r.2
  where
    by : (s : Sight) (b c : Bool) → s.inside ≡ b → is_token s.tree ≡ c → Contains (rule_sights g) s → Contains (token_at s.tree s.inside) t → Contains (rule_sights g) v
    by s true c e f here at = absurd (none_in t (subst (λ (x : Bool). Contains (token_at s.tree x) t) e at))
    by s false false e f here at = absurd (none_in t (subst (λ (x : Bool). Contains (if_token s.tree x) t) f (subst (λ (x : Bool). Contains (token_at s.tree x) t) e at)))
    by s false true e f here at = ⊎_elim
        (λ is. rules_closed g s here v (subst (λ (x : Bool). Contains (sights_within s.tree x) v) (sym e) (subst (λ (x : Rule). Contains (sights x) v) is u)))
        (λ none. absurd (none_in t none))
        (member_cases s.tree t [] (subst (λ (x : Bool). Contains (if_token s.tree x) t) f (subst (λ (x : Bool). Contains (token_at s.tree x) t) e at)))

-- a tree whose layer has a child outside of tokens shows the child
pub below_of : (s : Sight) (layer : Rule-F Rule) → out-Rule s.tree ≡ layer → sights_within s.tree s.inside ≡ s ∷ below_step (map-Rule Rule SeenBelow seen_below layer) s.inside
below_of s layer e =
    ap (λ (t : Rule). s ∷ below t s.inside) (sym (roll-out-Rule s.tree) ∙ ap roll-Rule e)
    ∙ ap (λ (rest : List Sight). s ∷ rest) (below_roll layer s.inside)

-- what is seen of a content of the rules
pub content_seen : (g : Grammar) (t : Rule) → Contains (contents_in (rule_sights g)) t → (v : Sight) → Contains (sights t) v → Contains (rule_sights g) v
content_seen g t w v u =
    let r = in_flat (λ (s : Sight). content_at s.tree s.inside) (rule_sights g) t w in
    by r.0 r.0.inside (out-Rule r.0.tree) refl refl r.1 r.2
  where
    child : (s : Sight) (layer : Rule-F Rule) → out-Rule s.tree ≡ layer → s.inside ≡ false → Contains (rule_sights g) s
        → ((x : Sight) → Contains (sights t) x → Contains (below_step (map-Rule Rule SeenBelow seen_below layer) false) x) → Contains (rule_sights g) v
    child s layer e f here wider = rules_closed g s here v
        (subst (λ (all : List Sight). Contains all v) (sym (below_of s layer e))
        (tail_in s v (below_step (map-Rule Rule SeenBelow seen_below layer) s.inside)
        (subst (λ (b : Bool). Contains (below_step (map-Rule Rule SeenBelow seen_below layer) b) v) (sym f) (wider v u))))

    only : (c : Rule) → Contains (c ∷ []) t → (x : Sight) → Contains (sights t) x → Contains (sights c) x
    only c at x h = ⊎_elim (λ e. subst (λ (r : Rule). Contains (sights r) x) e h) (λ none. absurd (none_in t none)) (member_cases c t [] at)

    layer_at : (s : Sight) (layer : Rule-F Rule) → s.inside ≡ false → out-Rule s.tree ≡ layer → Contains (content_at s.tree s.inside) t → Contains (content_layer layer) t
    layer_at s layer e f at = subst (λ (x : Rule-F Rule). Contains (content_layer x) t) f (subst (λ (x : Bool). Contains (content_at s.tree x) t) e at)

    by : (s : Sight) (b : Bool) (layer : Rule-F Rule) → s.inside ≡ b → out-Rule s.tree ≡ layer → Contains (rule_sights g) s → Contains (content_at s.tree s.inside) t → Contains (rule_sights g) v
    by s true layer e f here at = absurd (none_in t (subst (λ (x : Bool). Contains (content_at s.tree x) t) e at))
    by s false (Rule-F.Repeat c) e f here at = child s (Rule-F.Repeat c) f e here (only c (layer_at s (Rule-F.Repeat c) e f at))
    by s false (Rule-F.Repeat1 c) e f here at = child s (Rule-F.Repeat1 c) f e here (only c (layer_at s (Rule-F.Repeat1 c) e f at))
    by s false Rule-F.Blank e f here at = absurd (none_in t (layer_at s Rule-F.Blank e f at))
    by s false (Rule-F.Literal a) e f here at = absurd (none_in t (layer_at s (Rule-F.Literal a) e f at))
    by s false (Rule-F.Pattern a b) e f here at = absurd (none_in t (layer_at s (Rule-F.Pattern a b) e f at))
    by s false (Rule-F.Symbol a) e f here at = absurd (none_in t (layer_at s (Rule-F.Symbol a) e f at))
    by s false (Rule-F.Seq a) e f here at = absurd (none_in t (layer_at s (Rule-F.Seq a) e f at))
    by s false (Rule-F.Choice a) e f here at = absurd (none_in t (layer_at s (Rule-F.Choice a) e f at))
    by s false (Rule-F.Token a) e f here at = absurd (none_in t (layer_at s (Rule-F.Token a) e f at))
    by s false (Rule-F.ImmediateToken a) e f here at = absurd (none_in t (layer_at s (Rule-F.ImmediateToken a) e f at))
    by s false (Rule-F.Field a b) e f here at = absurd (none_in t (layer_at s (Rule-F.Field a b) e f at))
    by s false (Rule-F.Alias a b c) e f here at = absurd (none_in t (layer_at s (Rule-F.Alias a b c) e f at))
    by s false (Rule-F.Prec a b) e f here at = absurd (none_in t (layer_at s (Rule-F.Prec a b) e f at))
    by s false (Rule-F.PrecLeft a b) e f here at = absurd (none_in t (layer_at s (Rule-F.PrecLeft a b) e f at))
    by s false (Rule-F.PrecRight a b) e f here at = absurd (none_in t (layer_at s (Rule-F.PrecRight a b) e f at))
    by s false (Rule-F.PrecDynamic a b) e f here at = absurd (none_in t (layer_at s (Rule-F.PrecDynamic a b) e f at))
