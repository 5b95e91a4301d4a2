-- What the parts of a query name, part for part.
use Rattle.std.proofs.Common.{◌≡◌, ◌∙◌, sym, ap, refl, Bool, List, [], ◌∷◌, map, ◌++◌, append_assoc}
use Rattle.std.specs.Prelude.{Option}
use Rattle.ts_query_tree.specs.declared.tree.Written.{Written}
use Rattle.ts_query_tree.specs.declared.tree.Mark.{Mark}
use Rattle.ts_query_tree.specs.declared.tree.Head.{Head}
use Rattle.ts_query_tree.specs.declared.tree.Operand.{Operand}
use Rattle.ts_query_tree.specs.declared.tree.Part.{Part}
use Rattle.ts_query_tree.specs.declared.tree.Part.TheOpen.{Part-F}
use Rattle.ts_query_tree.specs.declared.tree.Part.TheVariants as part
use Rattle.ts_query_tree.specs.declared.tree.Part.TheVariants.{rolls-Item, rolls-Anchor, rolls-Without, rolls-Predicate}
use Rattle.ts_query_tree.specs.declared.tree.Part.TheFolds.{fold-roll-Part}
use Rattle.ts_query_names.specs.Mentions.{Mention, field, capture, predicate, is_round, field_mentions, head_mentions, mark_mentions, mentions_all, mention_step, mentions, mentions_in}

abbrev Named : Type 0
Named = Bool → List Mention

all_map : (ps : List Part) (b : Bool) → mentions_all (map mentions ps) b ≡ mentions_in ps b
all_map [] b = refl
all_map (p ∷ ps) b = ap (λ (rest : List Mention). mentions p b ++ rest) (all_map ps b)

pub of_item : (f : Option Written) (h : Head) (ps : List Part) (m : Option Mark) (cs : List Written) (b : Bool)
    → mentions (part.Item f h ps m cs) b
    ≡ field_mentions f ++ (head_mentions h ++ (mentions_in ps (is_round h m) ++ (mark_mentions b m ++ map capture cs)))
of_item f h ps m cs b =
    ap (λ (g : Named). g b) (ap {B = Named} mentions (sym (rolls-Item f h ps m cs)) ∙ fold-roll-Part Named mention_step (Part-F.Item f h ps m cs))
    ∙ ap (λ (inner : List Mention). field_mentions f ++ (head_mentions h ++ (inner ++ (mark_mentions b m ++ map capture cs)))) (all_map ps (is_round h m))

pub of_anchor : (b : Bool) → mentions part.Anchor b ≡ []
of_anchor b = ap (λ (g : Named). g b) (ap {B = Named} mentions (sym rolls-Anchor) ∙ fold-roll-Part Named mention_step Part-F.Anchor)

pub of_without : (name : Written) (b : Bool) → mentions (part.Without name) b ≡ field name ∷ []
of_without name b = ap (λ (g : Named). g b) (ap {B = Named} mentions (sym (rolls-Without name)) ∙ fold-roll-Part Named mention_step (Part-F.Without name))

pub of_predicate : (name : Written) (os : List Operand) (b : Bool) → mentions (part.Predicate name os) b ≡ predicate name os ∷ []
of_predicate name os b = ap (λ (g : Named). g b) (ap {B = Named} mentions (sym (rolls-Predicate name os)) ∙ fold-roll-Part Named mention_step (Part-F.Predicate name os))

-- what five steps put at the end, one after another
pub item_added : (old a b c d new : List Mention) (f h ps m cs : List Mention)
    → a ≡ old ++ f → b ≡ a ++ h → c ≡ b ++ ps → d ≡ c ++ m → new ≡ d ++ cs
    → new ≡ old ++ (f ++ (h ++ (ps ++ (m ++ cs))))
item_added old a b c d new f h ps m cs ea eb ec ed en =
    en
    ∙ ap (λ (xs : List Mention). xs ++ cs) (ed ∙ ap (λ (xs : List Mention). xs ++ m) (ec ∙ ap (λ (xs : List Mention). xs ++ ps) (eb ∙ ap (λ (xs : List Mention). xs ++ h) ea)))
    ∙ append_assoc (((old ++ f) ++ h) ++ ps) m cs
    ∙ append_assoc ((old ++ f) ++ h) ps (m ++ cs)
    ∙ append_assoc (old ++ f) h (ps ++ (m ++ cs))
    ∙ append_assoc old f (h ++ (ps ++ (m ++ cs)))

pub item_put : (f : Option Written) (h : Head) (ps qs : List Part) (m : Option Mark) (cs ds : List Written) (b r : Bool) (whole : Part) (old x y z w new : List Mention)
    → whole ≡ part.Item f h ps m cs → r ≡ is_round h m → qs ≡ ps → ds ≡ cs
    → x ≡ old ++ field_mentions f → y ≡ x ++ head_mentions h → z ≡ y ++ mentions_in qs r → w ≡ z ++ mark_mentions b m → new ≡ w ++ map capture ds
    → new ≡ old ++ mentions whole b
item_put f h ps qs m cs ds b r whole old x y z w new is round same also ex ey ez ew en =
    item_added old x y z w new (field_mentions f) (head_mentions h) (mentions_in ps (is_round h m)) (mark_mentions b m) (map capture cs)
    ex ey (ez ∙ ap (λ (q : Bool). y ++ mentions_in qs q) round ∙ ap (λ (us : List Part). y ++ mentions_in us (is_round h m)) same) ew
    (en ∙ ap (λ (us : List Written). w ++ map capture us) also)
    ∙ ap (λ (xs : List Mention). old ++ xs) (sym (of_item f h ps m cs b) ∙ ap (λ (p : Part). mentions p b) (sym is))

pub ruleset mention_laws = (of_item, of_anchor, of_without, of_predicate)
