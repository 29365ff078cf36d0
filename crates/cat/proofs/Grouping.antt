-- Going through the bindings of a group. Assumes nothing.
use Rattle.std.proofs.Common.{◌≡◌, ℕ, ◌+◌, ◌<◌, ◌≤◌, List, [], ◌∷◌, ◌++◌, map, length, get_or, drop, sym, ap, ◌∙◌, append_assoc, append-nil, arith, length-append}
use Rattle.std.proofs.lemmas.List.{drop_all, drop_more, map-append}
use Rattle.sentence.specs.declared.sort.Sort.TheVariants.{And}
use Rattle.sentence.specs.declared.statement.Binding as said
use Rattle.sentence.specs.Exprs.{tree_of}
use Rattle.sentence.specs.Statements.{trees_of}
use Rattle.sentence.specs.Trees.{Tree, spell, spell_binding, spell_more}
use Rattle.term.specs.declared.statement.Binding as program
use Rattle.term.specs.Statements.{Binding, binding_of}
use Rattle.cat.specs.Sorts.{Tokens}
use Rattle.cat.specs.Resolving.{resolve_binding, resolve_group, group_tokens}

-- the trees that are left, one step on and at the end
pub rest_more : (es : List said.Binding) (i : ℕ) (e : said.Binding) → i < length es → e ≡ get_or es i e → trees_of (drop i es) ≡ tree_of e.tree ∷ trees_of (drop (i + 1) es)
rest_more es i e lt is = ap trees_of (drop_more es i e lt) ∙ ap (λ (x : said.Binding). tree_of x.tree ∷ trees_of (drop (i + 1) es)) (sym is)

pub rest_none : (es : List said.Binding) (i : ℕ) → length es ≤ i → trees_of (drop i es) ≡ []
rest_none es i past = ap trees_of (drop_all i es past)

-- a further binding has three tokens more than its expression
long_more : (t : Tree) (ts : List Tree) → length (spell_more (t ∷ ts)) ≡ length (spell t) + 3 + length (spell_more ts)
long_more t ts = omega (arith, length-append (And ∷ spell_binding t) (spell_more ts))

-- the tokens of what is left end where the group does
abbrev pub Ends : List said.Binding → ℕ → ℕ → ℕ → Type 0
Ends es end i next = next + length (spell_more (trees_of (drop i es))) ≡ end

pub ends_more : (es : List said.Binding) (end i next onward : ℕ) (e : said.Binding) → Ends es end i next → i < length es → e ≡ get_or es i e → onward ≡ next + 3 + length (spell (tree_of e.tree)) → Ends es end (i + 1) onward
ends_more es end i next onward e h lt is on = let r = ap (λ ts. length (spell_more ts)) (rest_more es i e lt is) in let l = long_more (tree_of e.tree) (trees_of (drop (i + 1) es)) in omega arith

pub ends_done : (es : List said.Binding) (end i next : ℕ) → Ends es end i next → length es ≤ i → next ≡ end
ends_done es end i next h past = let r = ap (λ ts. length (spell_more ts)) (rest_none es i past) in omega arith

-- the tokens of the names so far, and those of the names that are left, are all of them
abbrev pub BindsOn : List said.Binding → List ℕ → ℕ → ℕ → List ℕ → Type 0
BindsOn es all i next so_far = so_far ++ group_tokens (next + 1) (trees_of (drop i es)) ≡ all

pub binds_first : (es : List said.Binding) (bound so_far : List ℕ) (at next : ℕ) (t : Tree) → so_far ≡ bound ++ (at ∷ []) → next ≡ at + length (spell_binding t) → BindsOn es (bound ++ group_tokens at (t ∷ trees_of es)) 0 next so_far
unfolding group_tokens
binds_first es bound so_far at next t is on = rw (is, on) (append_assoc bound (at ∷ []) (group_tokens (at + length (spell_binding t) + 1) (trees_of es)))

pub binds_more : (es : List said.Binding) (all : List ℕ) (i next onward : ℕ) (so_far longer : List ℕ) (e : said.Binding) → BindsOn es all i next so_far → i < length es → e ≡ get_or es i e → longer ≡ so_far ++ ((next + 1) ∷ []) → onward ≡ next + 3 + length (spell (tree_of e.tree)) → BindsOn es all (i + 1) onward longer
unfolding group_tokens
binds_more es all i next onward so_far longer e h lt is new on =
    let far : onward + 1 ≡ next + 1 + length (spell_binding (tree_of e.tree)) + 1 = omega arith in
    ap (λ x. x ++ group_tokens (onward + 1) (trees_of (drop (i + 1) es))) new
    ∙ append_assoc so_far ((next + 1) ∷ []) (group_tokens (onward + 1) (trees_of (drop (i + 1) es)))
    ∙ ap (λ k. so_far ++ ((next + 1) ∷ group_tokens k (trees_of (drop (i + 1) es)))) far
    ∙ ap (λ ts. so_far ++ group_tokens (next + 1) ts) (sym (rest_more es i e lt is)) ∙ h

pub binds_done : (es : List said.Binding) (all : List ℕ) (i next : ℕ) (so_far : List ℕ) → BindsOn es all i next so_far → length es ≤ i → so_far ≡ all
unfolding group_tokens
binds_done es all i next so_far h past = sym (append-nil so_far) ∙ ap (λ ts. so_far ++ group_tokens (next + 1) ts) (sym (rest_none es i past)) ∙ h

-- the bindings so far, and those that are left, are all of them
abbrev pub GroupsOn : Tokens → List ℕ → List said.Binding → List Binding → ℕ → ℕ → List ℕ → List program.Binding → Type 0
GroupsOn found bound es all i next before so_far = map binding_of so_far ++ resolve_group found bound before (next + 1) (trees_of (drop i es)) ≡ all

pub groups_first : (found : Tokens) (bound : List ℕ) (es : List said.Binding) (at next : ℕ) (t : Tree) (none before : List ℕ) (nothing so_far : List program.Binding) (b : program.Binding) → none ≡ [] → before ≡ none ++ (at ∷ []) → nothing ≡ [] → so_far ≡ nothing ++ (b ∷ []) → binding_of b ≡ resolve_binding found bound none at t → next ≡ at + length (spell_binding t) → GroupsOn found bound es (resolve_group found bound [] at (t ∷ trees_of es)) 0 next before so_far
unfolding resolve_group
groups_first found bound es at next t none before nothing so_far b void e void' is same on =
    let was : before ≡ at ∷ [] = e ∙ ap (λ x. x ++ (at ∷ [])) void in
    let has : so_far ≡ b ∷ [] = is ∙ ap (λ x. x ++ (b ∷ [])) void' in
    let whole : binding_of b ≡ resolve_binding found bound [] at t = same ∙ ap (λ x. resolve_binding found bound x at t) void in
    rw (was, has, on) (ap (λ x. x ∷ resolve_group found bound (at ∷ []) (at + length (spell_binding t) + 1) (trees_of es)) whole)

pub groups_more : (found : Tokens) (bound : List ℕ) (es : List said.Binding) (all : List Binding) (i next onward : ℕ) (before later : List ℕ) (so_far longer : List program.Binding) (e : said.Binding) (b : program.Binding) (slice : List ℕ) → GroupsOn found bound es all i next before so_far → i < length es → e ≡ get_or es i e → later ≡ before ++ ((next + 1) ∷ []) → longer ≡ so_far ++ (b ∷ []) → slice ≡ before → binding_of b ≡ resolve_binding found bound slice (next + 1) (tree_of e.tree) → onward ≡ next + 1 + length (spell_binding (tree_of e.tree)) → GroupsOn found bound es all (i + 1) onward later longer
unfolding resolve_group
groups_more found bound es all i next onward before later so_far longer e b slice h lt is new more seen same on =
    ap (λ x. map binding_of x ++ resolve_group found bound later (onward + 1) (trees_of (drop (i + 1) es))) more
    ∙ ap (λ x. x ++ resolve_group found bound later (onward + 1) (trees_of (drop (i + 1) es))) (map-append binding_of so_far (b ∷ []))
    ∙ append_assoc (map binding_of so_far) (binding_of b ∷ []) (resolve_group found bound later (onward + 1) (trees_of (drop (i + 1) es)))
    ∙ ap (λ x. map binding_of so_far ++ (x ∷ resolve_group found bound later (onward + 1) (trees_of (drop (i + 1) es)))) (same ∙ ap (λ x. resolve_binding found bound x (next + 1) (tree_of e.tree)) seen)
    ∙ ap (λ k. map binding_of so_far ++ (resolve_binding found bound before (next + 1) (tree_of e.tree) ∷ resolve_group found bound later (k + 1) (trees_of (drop (i + 1) es)))) on
    ∙ ap (λ x. map binding_of so_far ++ (resolve_binding found bound before (next + 1) (tree_of e.tree) ∷ resolve_group found bound x (next + 1 + length (spell_binding (tree_of e.tree)) + 1) (trees_of (drop (i + 1) es)))) new
    ∙ ap (λ ts. map binding_of so_far ++ resolve_group found bound before (next + 1) ts) (sym (rest_more es i e lt is)) ∙ h

pub groups_done : (found : Tokens) (bound : List ℕ) (es : List said.Binding) (all : List Binding) (i next : ℕ) (before : List ℕ) (so_far : List program.Binding) → GroupsOn found bound es all i next before so_far → length es ≤ i → map binding_of so_far ≡ all
unfolding resolve_group
groups_done found bound es all i next before so_far h past =
    sym (append-nil (map binding_of so_far)) ∙ ap (λ ts. map binding_of so_far ++ resolve_group found bound before (next + 1) ts) (sym (rest_none es i past)) ∙ h
