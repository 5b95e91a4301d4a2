-- The test of two rule trees decides whether they are equal.
use Rattle.std.proofs.Common.{◌≡◌, ◌∙◌, sym, ap, subst, refl, Bool, true, false, List, [], ◌∷◌, map}
use Rattle.std.specs.Prelude.{◌&&◌}
use Rattle.std.specs.Cmp.{IsEquivalence, bool_eq_equiv, signed_Decides, booleans_Decides}
use Rattle.std.proofs.lemmas.Cmp.{nat_list_eq_equiv}
use Rattle.std.specs.Bool.{beq}
use Rattle.std.specs.Ordering.{int_eq}
use Rattle.std.specs.Cmp.Lexicographic.{pointwise}
use Rattle.std.specs.Str.{bytes_eq}
use Rattle.ts_base.proofs.ByteLemmas.{same_bytes, bytes_same}
use Rattle.ts_core.specs.contracts.rule.PrecValuePartialEq.TheImpl as prec_value
use Rattle.ts_core.specs.contracts.rule.RulePartialEq.TheImpl.{ghosts}
use Rattle.ts_core.specs.contracts.rule.RulePartialEq.TheImpl.Laws as laws
use Rattle.ts_core.specs.contracts.rule.RuleEq.TheImpl.Laws.{laws-law}
use Rattle.ts_base.specs.Bytes.{Bytes}
use Rattle.ts_core.specs.declared.flat.Alias.{Alias}
use Rattle.ts_rules.specs.Sights.{alias}
use Rattle.ts_numbering.specs.Places.{same_tree, same_alias}
use Rattle.ts_core.specs.declared.rule.PrecValue.{PrecValue}
use Rattle.ts_core.specs.declared.rule.PrecValue.TheVariants.{Number, Name}
use Rattle.ts_core.specs.declared.rule.Rule.{Rule}
use Rattle.ts_core.specs.declared.rule.Rule.TheBlock.{the_family, member-Rule}
use Rattle.ts_core.specs.declared.rule.Rule.TheFolds.{ind-Rule, map-Rule, claims}
use Rattle.ts_core.specs.declared.rule.Rule.TheOpen.{Rule-F}
use Rattle.ts_core.specs.declared.rule.Rule.TheViews.{roll-Rule, out-Rule, roll-out-Rule, out-roll-Rule}
use Rattle.ts_core.specs.contracts.rule.Rule.{the_parts}
use Rattle.ts_core.specs.declared.rule.Rule.TheBlock.{split-Rule}
use denote.Enum.Compared.{Each, by}
use denote.Hole.Holds.{Such}

both : (a b : Bool) → (a && b) ≡ true → (a ≡ true) × (b ≡ true)
both true b h = (refl, h)
both false b h = let e : false ≡ true = h in cc

value_same : (p q : PrecValue) → prec_value.ghosts.eq p q ≡ true → p ≡ q
value_same (Number m) (Number n) h = let d = signed_Decides m n in ap Number (d.0 h)
value_same (Number m) (Name n) h = let e : false ≡ true = h in cc
value_same (Name m) (Number n) h = let e : false ≡ true = h in cc
value_same (Name m) (Name n) h = ap Name (same_bytes m n h)

-- ---- trees

abbrev IsKnown : Rule → Type 0
IsKnown r = (s : Rule) → ghosts.eq r s ≡ true → r ≡ s

abbrev Child : Type 0
Child = Such the_family (claims IsKnown) member-Rule

abbrev tree : Child → Rule
tree child = child.0

known : (e : Child) (s : Rule) → ghosts.eq (tree e) s ≡ true → tree e ≡ s
known e s h = let k : IsKnown e.0 = e.1 in k s h

known_all : (es : List Child) (ss : List Rule) → pointwise ghosts.eq (map tree es) ss ≡ true → map tree es ≡ ss
known_all [] [] h = refl
known_all [] (s ∷ ss) h = let e : false ≡ true = h in cc
known_all (e ∷ es) [] h = let f : false ≡ true = h in cc
known_all (e ∷ es) (s ∷ ss) h =
    let parts = both (ghosts.eq e.0 s) (pointwise ghosts.eq (map tree es) ss) h in
    let here : e.0 ≡ s = known e s parts.0 in
    let rest : map tree es ≡ ss = known_all es ss parts.1 in
    cc

-- what the test asks of the fields, by variants
abbrev fields : Each Bool the_parts
fields = (
  (λ x y. true),
  (
    (λ x y. bytes_eq x.0 y.0),
    (
      (λ x y. bytes_eq x.0 y.0 && beq x.1.0 y.1.0),
      (
        (λ x y. bytes_eq x.0 y.0),
        (
          (λ x y. pointwise ghosts.eq x.0 y.0),
          (
            (λ x y. pointwise ghosts.eq x.0 y.0),
            (
              (λ x y. ghosts.eq x.0 y.0),
              (
                (λ x y. ghosts.eq x.0 y.0),
                (
                  (λ x y. ghosts.eq x.0 y.0),
                  (
                    (λ x y. ghosts.eq x.0 y.0),
                    (
                      (λ x y. bytes_eq x.0 y.0 && ghosts.eq x.1.0 y.1.0),
                      (
                        (λ x y. ghosts.eq x.0 y.0 && (beq x.1.0 y.1.0 && bytes_eq x.1.1.0 y.1.1.0)),
                        (
                          (λ x y. prec_value.ghosts.eq x.0 y.0 && ghosts.eq x.1.0 y.1.0),
                          (
                            (λ x y. prec_value.ghosts.eq x.0 y.0 && ghosts.eq x.1.0 y.1.0),
                            (
                              (λ x y. prec_value.ghosts.eq x.0 y.0 && ghosts.eq x.1.0 y.1.0),
                              (
                                (λ x y. int_eq x.0 y.0 && ghosts.eq x.1.0 y.1.0),
                                tt,
                              ),
                            ),
                          ),
                        ),
                      ),
                    ),
                  ),
                ),
              ),
            ),
          ),
        ),
      ),
    ),
  ),
)

abbrev alike : Rule-F Rule → Rule-F Rule → Bool
alike x y = by false false the_parts fields (split-Rule the_family x) (split-Rule the_family y)

is_alike : (r s : Rule) → ghosts.eq r s ≡ alike (out-Rule r) (out-Rule s)
is_alike r s = laws.is r s

known_layer : (y : Rule-F Child) (z : Rule-F Rule) → alike (map-Rule Child Rule tree y) z ≡ true → map-Rule Child Rule tree y ≡ z
known_layer Rule-F.Blank Rule-F.Blank h = refl
known_layer (Rule-F.Literal a) (Rule-F.Literal b) h = ap Rule-F.Literal (same_bytes a b h)
known_layer (Rule-F.Symbol a) (Rule-F.Symbol b) h = ap Rule-F.Symbol (same_bytes a b h)
known_layer (Rule-F.Seq es) (Rule-F.Seq ss) h = ap Rule-F.Seq (known_all es ss h)
known_layer (Rule-F.Choice es) (Rule-F.Choice ss) h = ap Rule-F.Choice (known_all es ss h)
known_layer (Rule-F.Repeat e) (Rule-F.Repeat s) h = ap Rule-F.Repeat (known e s h)
known_layer (Rule-F.Repeat1 e) (Rule-F.Repeat1 s) h = ap Rule-F.Repeat1 (known e s h)
known_layer (Rule-F.Token e) (Rule-F.Token s) h = ap Rule-F.Token (known e s h)
known_layer (Rule-F.ImmediateToken e) (Rule-F.ImmediateToken s) h = ap Rule-F.ImmediateToken (known e s h)
known_layer (Rule-F.Pattern a i) (Rule-F.Pattern b j) h =
    let parts = both (bytes_eq a b) _ h in
    let d = booleans_Decides i j in
    let here : a ≡ b = same_bytes a b parts.0 in
    let flag : i ≡ j = d.0 parts.1 in
    cc
known_layer (Rule-F.Field a e) (Rule-F.Field b s) h =
    let parts = both (bytes_eq a b) (ghosts.eq e.0 s) h in
    let here : a ≡ b = same_bytes a b parts.0 in
    let below : e.0 ≡ s = known e s parts.1 in
    cc
known_layer (Rule-F.Alias e i a) (Rule-F.Alias s j b) h =
    let parts = both (ghosts.eq e.0 s) _ h in
    let more = both _ (bytes_eq a b) parts.1 in
    let d = booleans_Decides i j in
    let below : e.0 ≡ s = known e s parts.0 in
    let flag : i ≡ j = d.0 more.0 in
    let here : a ≡ b = same_bytes a b more.1 in
    cc
known_layer (Rule-F.Prec p e) (Rule-F.Prec q s) h =
    let parts = both (prec_value.ghosts.eq p q) (ghosts.eq e.0 s) h in
    let here : p ≡ q = value_same p q parts.0 in
    let below : e.0 ≡ s = known e s parts.1 in
    cc
known_layer (Rule-F.PrecLeft p e) (Rule-F.PrecLeft q s) h =
    let parts = both (prec_value.ghosts.eq p q) (ghosts.eq e.0 s) h in
    let here : p ≡ q = value_same p q parts.0 in
    let below : e.0 ≡ s = known e s parts.1 in
    cc
known_layer (Rule-F.PrecRight p e) (Rule-F.PrecRight q s) h =
    let parts = both (prec_value.ghosts.eq p q) (ghosts.eq e.0 s) h in
    let here : p ≡ q = value_same p q parts.0 in
    let below : e.0 ≡ s = known e s parts.1 in
    cc
known_layer (Rule-F.PrecDynamic m e) (Rule-F.PrecDynamic n s) h =
    let parts = both _ (ghosts.eq e.0 s) h in
    let d = signed_Decides m n in
    let here : m ≡ n = d.0 parts.0 in
    let below : e.0 ≡ s = known e s parts.1 in
    cc
known_layer y z h = let e : false ≡ true = h in cc

pub tree_same : (r s : Rule) → ghosts.eq r s ≡ true → r ≡ s
tree_same r = ind-Rule IsKnown (λ x y e. subst (λ (z : Rule-F Rule). IsKnown (roll-Rule z)) e (whole y)) r
  where
    whole : (y : Rule-F Child) → IsKnown (roll-Rule (map-Rule Child Rule tree y))
    whole y s h =
        let x = map-Rule Child Rule tree y in
        let same : alike (out-Rule (roll-Rule x)) (out-Rule s) ≡ true = sym (is_alike (roll-Rule x) s) ∙ h in
        let layers : x ≡ out-Rule s = known_layer y (out-Rule s) (subst (λ (z : Rule-F Rule). alike z (out-Rule s) ≡ true) (out-roll-Rule x) same) in
        ap roll-Rule layers ∙ roll-out-Rule s

-- a tree is the same as itself
pub tree_itself : (r : Rule) → ghosts.eq r r ≡ true
tree_itself r = let l = laws-law in l.refl r

-- ---- aliases

pub alias_same : (a b : Alias) → same_alias a b ≡ true → a ≡ b
alias_same a b h =
    let parts = both (bytes_eq a.name b.name) (beq a.named b.named) h in
    let d = booleans_Decides a.named b.named in
    let name : a.name ≡ b.name = same_bytes a.name b.name parts.0 in
    let named : a.named ≡ b.named = d.0 parts.1 in
    ap (λ (x : Bytes). alias x a.named) name ∙ ap (alias b.name) named

pub alias_itself : (a : Alias) → same_alias a a ≡ true
alias_itself a =
    let d = booleans_Decides a.named a.named in
    ap (λ (x : Bool). x && beq a.named a.named) (bytes_same a.name a.name refl) ∙ d.1 refl

-- ---- both tests are equivalences

pub tree_laws : IsEquivalence same_tree
tree_laws = laws-law

pub alias_laws : IsEquivalence same_alias
alias_laws = record { refl = alias_itself; symm = turned; congr = carried }
  where
    turned : (a b : Alias) → same_alias a b ≡ same_alias b a
    turned a b = ap (λ (t : Bool). t && beq a.named b.named) (nat_list_eq_equiv.symm a.name b.name) ∙ ap (λ (t : Bool). bytes_eq b.name a.name && t) (bool_eq_equiv.symm a.named b.named)

    carried : (a b c : Alias) → same_alias a b ≡ true → same_alias a c ≡ same_alias b c
    carried a b c h = ap (λ (x : Alias). same_alias x c) (alias_same a b h)
