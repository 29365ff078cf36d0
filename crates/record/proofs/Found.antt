-- What the reader finds at the beginning of bytes is what is spelled there. Assumes nothing.
use Rattle.std.proofs.Common.{◌≡◌, ℕ, zero, suc, ◌+◌, ◌*◌, ◌/◌, ◌%◌, ◌<◌, ◌≤◌, ◌≢◌, true, false, leb, List, [], ◌∷◌, ◌++◌, length, get_or, drop, Some, None, Option, zero-le, refl, ap, arith, drop-cons}
use Rattle.std.proofs.lemmas.Bool.{and_parts, and_from, and_left, and_right, leb-true, eqb-true, le-leb, eq-eqb, ne_eqb, cond_both}
use Rattle.bench.specs.declared.action.Action.{Action}
use Rattle.bench.specs.declared.action.Action.TheVariants.{Enter, Tie, Settle}
use Rattle.record.specs.Format.{Bytes, word, spell, end}
use Rattle.record.specs.Reading.{headed, entry_at, call_at}

-- four bytes spell the number that they make
pub word_spells : (a b c d : ℕ) → b < 256 → c < 256 → d < 256 → word (a * 16777216 + (b * 65536 + (c * 256 + d))) ≡ a ∷ b ∷ c ∷ d ∷ []
word_spells a b c d hb hc hd =
    let v = a * 16777216 + (b * 65536 + (c * 256 + d)) in
    let p : v / 16777216 ≡ a = omega arith in
    let q : v / 65536 % 256 ≡ b = omega arith in
    let r : v / 256 % 256 ≡ c = omega arith in
    let s : v % 256 ≡ d = omega arith in
    cc

-- the bytes of a number make it
pub word_value : (v : ℕ) → v / 16777216 * 16777216 + (v / 65536 % 256 * 65536 + (v / 256 % 256 * 256 + v % 256)) ≡ v
word_value v = omega arith

-- so many items of a list from a place on
row : ℕ → ℕ → List ℕ → List ℕ
row zero i rest = []
row (suc k) i rest = get_or rest i 0 ∷ row k (suc i) rest

-- what a list has from a place on is so many items, then what it has behind them
row_drop : (k i : ℕ) (rest : List ℕ) → i + k ≤ length rest → drop i rest ≡ row k i rest ++ drop (i + k) rest
unfolding row
row_drop zero i rest h = let place : i ≡ i + 0 = omega arith in cc
row_drop (suc k) i rest h =
    let here = drop-cons rest i 0 (omega arith) in
    let behind = row_drop k (suc i) rest (omega arith) in
    let place : suc i + k ≡ i + suc k = omega arith in
    cc

-- the parts of the test of a head
headed_parts : (rest : List ℕ) (tag long : ℕ) → headed rest tag long ≡ true → (3 + long ≤ length rest) × (get_or rest 0 0 ≡ tag) × (get_or rest 1 0 ≡ 0) × (get_or rest 2 0 ≡ long)
headed_parts rest tag long h =
    let p = and_parts _ _ h in
    let q = and_parts _ _ p.1 in
    let r = and_parts _ _ q.1 in
    (leb-true _ _ p.0, eqb-true _ _ q.0, eqb-true _ _ r.0, eqb-true _ _ r.1)

-- a call's field has at least 4 bytes
pub spell_long : (a : Action) → 4 ≤ length (spell a)
spell_long (Enter x) = omega arith
spell_long (Tie r w) = omega arith
spell_long (Settle n) = omega arith

-- behind a call's field stands the rest
pub drop_spell : (a : Action) (more : List ℕ) → drop (length (spell a)) (spell a ++ more) ≡ more
drop_spell (Enter x) more = refl
drop_spell (Tie r w) more = refl
drop_spell (Settle n) more = refl

-- a head is found where its field begins
headed_field : (tag long : ℕ) (content : List ℕ) → long ≤ length content → headed (tag ∷ 0 ∷ long ∷ content) tag long ≡ true
headed_field tag long content h =
    and_from _ _ (le-leb (3 + long) (suc (suc (suc (length content)))) (omega arith)) (and_from _ _ (eq-eqb tag tag refl) (eq-eqb long long refl))

-- no other tag is found there
headed_other : (tag other long : ℕ) (rest : List ℕ) → (tag ≡ other → ⊥) → headed (tag ∷ rest) other long ≡ false
headed_other tag other long rest h = and_right (leb (3 + long) (suc (length rest))) _ (and_left _ _ (ne_eqb tag other h))

-- where a call is spelled, it is found
pub call_spelled : (a : Action) (more : List ℕ) → call_at (spell a ++ more) ≡ Some a
unfolding call_at
call_spelled (Enter x) more =
    let content = x.number ∷ x.kind ∷ x.thread ∷ x.step ∷ x.location ∷ (word x.value ++ more) in
    let h : headed (spell (Enter x) ++ more) 1 9 ≡ true = headed_field 1 9 content (omega arith) in
    rw h
    (ap (λ v. Some (Enter (record { number = x.number; kind = x.kind; thread = x.thread; step = x.step; location = x.location; value = v }))) (word_value x.value))
call_spelled (Tie r w) more =
    let k : headed (spell (Tie r w) ++ more) 1 9 ≡ false = headed_other 2 1 9 (0 ∷ 2 ∷ r ∷ w ∷ more) (λ e. omega arith) in
    let h : headed (spell (Tie r w) ++ more) 2 2 ≡ true = headed_field 2 2 (r ∷ w ∷ more) (omega arith) in
    rw (k, h)
call_spelled (Settle n) more =
    let k : headed (spell (Settle n) ++ more) 1 9 ≡ false = headed_other 3 1 9 (0 ∷ 1 ∷ n ∷ more) (λ e. omega arith) in
    let l : headed (spell (Settle n) ++ more) 2 2 ≡ false = headed_other 3 2 2 (0 ∷ 1 ∷ n ∷ more) (λ e. omega arith) in
    let h : headed (spell (Settle n) ++ more) 3 1 ≡ true = headed_field 3 1 (n ∷ more) (omega arith) in
    rw (k, l, h)

-- where the end is spelled, its head is found, and no call
pub end_headed : (more : List ℕ) → headed (end ++ more) 0 0 ≡ true
end_headed more = headed_field 0 0 more (omega arith)

pub end_spelled : (more : List ℕ) → call_at (end ++ more) ≡ None
unfolding call_at
end_spelled more =
    let k : headed (end ++ more) 1 9 ≡ false = headed_other 0 1 9 (0 ∷ 0 ∷ more) (λ e. omega arith) in
    let l : headed (end ++ more) 2 2 ≡ false = headed_other 0 2 2 (0 ∷ 0 ∷ more) (λ e. omega arith) in
    let m : headed (end ++ more) 3 1 ≡ false = headed_other 0 3 1 (0 ∷ 0 ∷ more) (λ e. omega arith) in
    rw (k, l, m)

-- how many bytes a call's field takes
abbrev pub takes : Option Action → ℕ
takes None = 0
takes (Some a) = length (spell a)

-- a field that is found lies within the rest
pub call_within : (rest : List ℕ) → takes (call_at rest) ≤ length rest
unfolding call_at
call_within rest =
    cond_both (headed rest 1 9) _ _ Within (λ h. (headed_parts rest 1 9 h).0) (λ _.
    cond_both (headed rest 2 2) _ _ Within (λ h. (headed_parts rest 2 2 h).0) (λ _.
    cond_both (headed rest 3 1) _ _ Within (λ h. (headed_parts rest 3 1 h).0) (λ _. zero-le)))
  where
    Within : Option Action → Type 0
    Within o = takes o ≤ length rest

-- what it means that a call is found, or none
abbrev pub Begins : List ℕ → Option Action → Type 0
Begins rest (Some a) = rest ≡ spell a ++ drop (length (spell a)) rest
Begins rest None = (a : Action) (more : List ℕ) → rest ≢ spell a ++ more

-- so many items begin a list that is long enough
row_begins : (k : ℕ) (rest : List ℕ) → k ≤ length rest → rest ≡ row k 0 rest ++ drop k rest
row_begins k rest h = let place : 0 + k ≡ k = omega arith in let e = row_drop k 0 rest (omega arith) in cc

-- where an event's head is found, its field begins
enter_begins : (rest : List ℕ) → Bytes rest → headed rest 1 9 ≡ true → rest ≡ spell (entry_at rest) ++ drop 12 rest
unfolding row
enter_begins rest bytes h =
    let p = headed_parts rest 1 9 h in
    let e = row_begins 12 rest p.0 in
    let w = word_spells (get_or rest 8 0) (get_or rest 9 0) (get_or rest 10 0) (get_or rest 11 0) (bytes 9) (bytes 10) (bytes 11) in
    cc

-- where a tie's head is found, its field begins
tie_begins : (rest : List ℕ) → headed rest 2 2 ≡ true → rest ≡ spell (Tie (get_or rest 3 0) (get_or rest 4 0)) ++ drop 5 rest
unfolding row
tie_begins rest h = let p = headed_parts rest 2 2 h in let e = row_begins 5 rest p.0 in cc

-- where a settling's head is found, its field begins
settle_begins : (rest : List ℕ) → headed rest 3 1 ≡ true → rest ≡ spell (Settle (get_or rest 3 0)) ++ drop 4 rest
unfolding row
settle_begins rest h = let p = headed_parts rest 3 1 h in let e = row_begins 4 rest p.0 in cc

-- where the end's head is found, the end begins
pub end_begins : (rest : List ℕ) → headed rest 0 0 ≡ true → rest ≡ end ++ drop 3 rest
unfolding row
end_begins rest h = let p = headed_parts rest 0 0 h in let e = row_begins 3 rest p.0 in cc

-- where none is found, no call's field begins
pub none_begins : (rest : List ℕ) → call_at rest ≡ None → Begins rest None
none_begins rest h = λ a more e. let f = call_spelled a more in let z : ◌≡◌ {A = ℕ} 0 1 = cc in omega arith

-- what is found begins there
pub begins : (rest : List ℕ) → Bytes rest → Begins rest (call_at rest)
unfolding call_at
begins rest bytes =
    cond_both (headed rest 1 9) _ _ So (λ h e. enter_begins rest bytes h) (λ _.
    cond_both (headed rest 2 2) _ _ So (λ h e. tie_begins rest h) (λ _.
    cond_both (headed rest 3 1) _ _ So (λ h e. settle_begins rest h) (λ _ e. none_begins rest e))) refl
  where
    So : Option Action → Type 0
    So o = call_at rest ≡ o → Begins rest o
