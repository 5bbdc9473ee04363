-- Lists of instances, matches, order items and groups are read from their words.
use Rattle.std.proofs.Common.{◌≡◌, ℕ, Bool, true, false, not, ◌==◌, nat_lt, bytes_eq, codes, decimal, List, [], ◌∷◌, ◌++◌, map, drop, Option, Some, None, All, sym, refl, ap, ◌∙◌, if◌then◌else◌, append-nil, append_assoc}
use Rattle.std.proofs.lemmas.Bool.{and_from}
use Rattle.orc_ids.specs.declared.groups.Group.{Group}
use Rattle.orc_ids.specs.declared.ids.InstId.{InstId}
use Rattle.orc_ids.specs.declared.lookup.OrderItem.{OrderItem}
use Rattle.orc_ids.specs.declared.lookup.Scope.{Scope}
use Rattle.orc_ids.specs.declared.lookup.Scope.TheVariants.{All as All_names, Exported}
use Rattle.text_parts.specs.Hexadecimal.{hex}
use Rattle.journal_text.specs.Parts.{listed, scope_text, item_text, inst_text, insts_text, group_text, found_text, bound_text}
use Rattle.journal_text.specs.Laws.{without_address}
use Rattle.journal_text.specs.Readable.{IsNumber, AreInstances, IsReadableGroup, IsReadableMatch}
use Rattle.journal_text.proofs.Cuts.{at_sign, colon, comma, semicolon, every, every-append, solid, all_solid, spaced, parts, parts_one, parts_more, joined, images_read, joined_read, joined_every}
use Rattle.journal_text.proofs.Numerals.{Passes, solid_passes, free_passes, decimal_passes, hex_passes, value, value-decimal, hex_value, value-hex}

-- Words of a list

abbrev pub first : List (List ℕ) → List ℕ
first [] = []
first (w ∷ ws) = w

abbrev pub rest : List (List ℕ) → List (List ℕ)
rest [] = []
rest (w ∷ ws) = ws

-- a list is one word, or none where it is empty
abbrev pub list_words : {X : Type 0} → ℕ → (X → List ℕ) → List X → List (List ℕ)
list_words mark text [] = []
list_words mark text (x ∷ xs) = joined mark text x xs ∷ []

pub list_spaced : {X : Type 0} (mark : ℕ) (text : X → List ℕ) (xs : List X) → listed (codes " ") (mark ∷ []) text xs ≡ spaced (list_words mark text xs)
list_spaced mark text [] = refl
list_spaced mark text (x ∷ xs) = ap (λ l. 32 ∷ l) (sym (append-nil (joined mark text x xs)))

pub names_spaced : {X : Type 0} (text : X → List ℕ) (xs : List X) → listed (codes " ") (codes " ") text xs ≡ spaced (map text xs)
names_spaced text [] = refl
names_spaced text (x ∷ xs) = ap (λ l. 32 ∷ (text x ++ l)) (names_spaced text xs)

-- the number of an id, behind its letter
abbrev pub id_value : List ℕ → ℕ
id_value w = value (drop 1 w)

-- the text passes each test that passes digits and letters, and its own marks
abbrev Clears : {X : Type 0} → (X → Type 0) → (X → List ℕ) → (ℕ → Bool) → Type 0
Clears {X} Good text test = (x : X) → Good x → every test (text x) ≡ true

-- Matches

abbrev pub read_found : List ℕ → Option (InstId × ℕ)
read_found w = if bytes_eq w (codes "none") then None else Some (record { 0 = id_value (first (parts at_sign w)) }, hex_value (first (rest (parts at_sign w))))

pub found_read : (m : Option (InstId × ℕ)) → IsReadableMatch m → read_found (found_text m) ≡ m
found_read None good = refl
found_read (Some p) good =
    ap read_found (append_assoc (105 ∷ decimal p.0.0) (codes "@") (hex p.1))
    ∙ ap (λ (ps : List (List ℕ)). Some (record { 0 = id_value (first ps) }, hex_value (first (rest ps))))
    (parts_more at_sign (105 ∷ decimal p.0.0) (hex p.1) (decimal_passes (λ b. not (b == at_sign)) (free_passes at_sign refl) p.0.0 good.0)
    ∙ ap (λ ps. (105 ∷ decimal p.0.0) ∷ ps) (parts_one at_sign (hex p.1) (hex_passes (λ b. not (b == at_sign)) (free_passes at_sign refl) p.1 good.1)))
    ∙ (λ i. Some (record { 0 = value-decimal p.0.0 good.0 i }, value-hex p.1 good.1 i))

found_clears : (test : ℕ → Bool) → Passes test → test at_sign ≡ true → Clears IsReadableMatch found_text test
found_clears test passes at None good = and_from (test 110) _ (passes 110 refl) (and_from (test 111) _ (passes 111 refl) (and_from (test 110) _ (passes 110 refl) (and_from (test 101) _ (passes 101 refl) refl)))
found_clears test passes at (Some p) good =
    ap (every test) (append_assoc (105 ∷ decimal p.0.0) (codes "@") (hex p.1))
    ∙ and_from (test 105) (every test (decimal p.0.0 ++ at_sign ∷ hex p.1)) (passes 105 refl)
    (every-append test (decimal p.0.0) (at_sign ∷ hex p.1) (decimal_passes test passes p.0.0 good.0) (and_from (test at_sign) (every test (hex p.1)) at (hex_passes test passes p.1 good.1)))

abbrev pub read_founds : List (List ℕ) → List (Option (InstId × ℕ))
read_founds [] = []
read_founds (w ∷ ws) = map read_found (parts comma w)

pub founds_read : (ms : List (Option (InstId × ℕ))) → All IsReadableMatch ms → read_founds (list_words comma found_text ms) ≡ ms
founds_read [] good = refl
founds_read (m ∷ ms) good = joined_read comma found_text IsReadableMatch read_found found_read (found_clears (λ b. not (b == comma)) (free_passes comma refl) refl) m ms good

pub founds_solid : (ms : List (Option (InstId × ℕ))) → All IsReadableMatch ms → all_solid (list_words comma found_text ms) ≡ true
founds_solid [] good = refl
founds_solid (m ∷ ms) good = and_from (solid (joined comma found_text m ms)) true (joined_every comma found_text IsReadableMatch (nat_lt 32) refl (found_clears (nat_lt 32) solid_passes refl) m ms good) refl

abbrev pub read_bound : List ℕ → Option (InstId × ℕ)
read_bound w = if bytes_eq w (codes "none") then None else Some (record { 0 = id_value w }, 0)

-- the address isn't read
bound_read : (m : Option (InstId × ℕ)) → IsReadableMatch m → read_bound (bound_text m) ≡ without_address m
bound_read None good = refl
bound_read (Some p) good = λ i. Some (record { 0 = value-decimal p.0.0 good.0 i }, 0)

bound_clears : (test : ℕ → Bool) → Passes test → Clears IsReadableMatch bound_text test
bound_clears test passes None good = and_from (test 110) _ (passes 110 refl) (and_from (test 111) _ (passes 111 refl) (and_from (test 110) _ (passes 110 refl) (and_from (test 101) _ (passes 101 refl) refl)))
bound_clears test passes (Some p) good = and_from (test 105) _ (passes 105 refl) (decimal_passes test passes p.0.0 good.0)

abbrev pub read_bounds : List (List ℕ) → List (Option (InstId × ℕ))
read_bounds [] = []
read_bounds (w ∷ ws) = map read_bound (parts comma w)

pub bounds_read : (ms : List (Option (InstId × ℕ))) → All IsReadableMatch ms → read_bounds (list_words comma bound_text ms) ≡ map without_address ms
bounds_read [] good = refl
bounds_read (m ∷ ms) good = images_read comma bound_text IsReadableMatch without_address read_bound bound_read (bound_clears (λ b. not (b == comma)) (free_passes comma refl)) m ms good

pub bounds_solid : (ms : List (Option (InstId × ℕ))) → All IsReadableMatch ms → all_solid (list_words comma bound_text ms) ≡ true
bounds_solid [] good = refl
bounds_solid (m ∷ ms) good = and_from (solid (joined comma bound_text m ms)) true (joined_every comma bound_text IsReadableMatch (nat_lt 32) refl (bound_clears (nat_lt 32) solid_passes) m ms good) refl

-- Instances

abbrev read_inst : List ℕ → InstId
read_inst w = record { 0 = id_value w }

abbrev IsInst : InstId → Type 0
IsInst i = IsNumber i.0

inst_read : (i : InstId) → IsInst i → read_inst (inst_text i) ≡ i
inst_read i good = λ j. record { 0 = value-decimal i.0 good j }

inst_clears : (test : ℕ → Bool) → Passes test → Clears IsInst inst_text test
inst_clears test passes i good = and_from (test 105) _ (passes 105 refl) (decimal_passes test passes i.0 good)

abbrev read_insts : List ℕ → List InstId
read_insts [] = []
read_insts (b ∷ bs) = map read_inst (parts comma (b ∷ bs))

insts_read : (is : List InstId) → AreInstances is → read_insts (insts_text is) ≡ is
insts_read [] good = refl
insts_read (i ∷ is) good = joined_read comma inst_text IsInst read_inst inst_read (inst_clears (λ b. not (b == comma)) (free_passes comma refl)) i is good

insts_clear : (test : ℕ → Bool) → Passes test → test comma ≡ true → (is : List InstId) → AreInstances is → every test (insts_text is) ≡ true
insts_clear test passes at_comma [] good = refl
insts_clear test passes at_comma (i ∷ is) good = joined_every comma inst_text IsInst test at_comma (inst_clears test passes) i is good

-- Groups

abbrev read_group : List ℕ → Group
read_group w = record { members = read_insts (first (parts colon w)); deps = read_insts (first (rest (parts colon w))) }

group_read : (g : Group) → IsReadableGroup g → read_group (group_text g) ≡ g
group_read g good =
    ap read_group (append_assoc (insts_text g.members) (codes ":") (insts_text g.deps))
    ∙ ap (λ (ps : List (List ℕ)). record { members = read_insts (first ps); deps = read_insts (first (rest ps)) })
    (parts_more colon (insts_text g.members) (insts_text g.deps) (insts_clear (λ b. not (b == colon)) (free_passes colon refl) refl g.members good.members)
    ∙ ap (λ ps. insts_text g.members ∷ ps) (parts_one colon (insts_text g.deps) (insts_clear (λ b. not (b == colon)) (free_passes colon refl) refl g.deps good.deps)))
    ∙ (λ i. record { members = insts_read g.members good.members i; deps = insts_read g.deps good.deps i })

group_clears : (test : ℕ → Bool) → Passes test → test comma ≡ true → test colon ≡ true → Clears IsReadableGroup group_text test
group_clears test passes at_comma at_colon g good =
    ap (every test) (append_assoc (insts_text g.members) (codes ":") (insts_text g.deps))
    ∙ every-append test (insts_text g.members) (colon ∷ insts_text g.deps) (insts_clear test passes at_comma g.members good.members)
    (and_from (test colon) (every test (insts_text g.deps)) at_colon (insts_clear test passes at_comma g.deps good.deps))

-- Order items

abbrev read_scope : List ℕ → Scope
read_scope w = if bytes_eq w (codes "all") then All_names else Exported

scope_read : (s : Scope) → read_scope (drop 1 (scope_text s)) ≡ s
scope_read All_names = refl
scope_read Exported = refl

abbrev read_item : List ℕ → OrderItem
read_item w = record { dylib = record { 0 = id_value (first (parts colon w)) }; scope = read_scope (first (rest (parts colon w))) }

abbrev IsItem : OrderItem → Type 0
IsItem item = IsNumber item.dylib.0

scope_parts : (n : ℕ) → IsNumber n → (s : Scope) → parts colon (100 ∷ (decimal n ++ scope_text s)) ≡ (100 ∷ decimal n) ∷ drop 1 (scope_text s) ∷ []
scope_parts n good All_names = parts_more colon (100 ∷ decimal n) (codes "all") (decimal_passes (λ b. not (b == colon)) (free_passes colon refl) n good)
scope_parts n good Exported = parts_more colon (100 ∷ decimal n) (codes "exported") (decimal_passes (λ b. not (b == colon)) (free_passes colon refl) n good)

item_read : (item : OrderItem) → IsItem item → read_item (item_text item) ≡ item
item_read item good =
    ap (λ (ps : List (List ℕ)). record { dylib = record { 0 = id_value (first ps) }; scope = read_scope (first (rest ps)) }) (scope_parts item.dylib.0 good item.scope)
    ∙ (λ i. record { dylib = record { 0 = value-decimal item.dylib.0 good i }; scope = scope_read item.scope i })

scope_clears : (test : ℕ → Bool) → Passes test → test colon ≡ true → (s : Scope) → every test (scope_text s) ≡ true
scope_clears test passes at_colon All_names = and_from (test colon) _ at_colon (and_from (test 97) _ (passes 97 refl) (and_from (test 108) _ (passes 108 refl) (and_from (test 108) _ (passes 108 refl) refl)))
scope_clears test passes at_colon Exported = and_from (test colon) _ at_colon (and_from (test 101) _ (passes 101 refl) (and_from (test 120) _ (passes 120 refl) (and_from (test 112) _ (passes 112 refl) (and_from (test 111) _ (passes 111 refl)
    (and_from (test 114) _ (passes 114 refl) (and_from (test 116) _ (passes 116 refl) (and_from (test 101) _ (passes 101 refl) (and_from (test 100) _ (passes 100 refl) refl))))))))

item_clears : (test : ℕ → Bool) → Passes test → test colon ≡ true → Clears IsItem item_text test
item_clears test passes at_colon item good = and_from (test 100) _ (passes 100 refl) (every-append test (decimal item.dylib.0) (scope_text item.scope) (decimal_passes test passes item.dylib.0 good) (scope_clears test passes at_colon item.scope))

-- Lists before other words

-- the list's word, unless another word stands in its place
abbrev pub read_joined : {X : Type 0} → (List ℕ → X) → ℕ → (List ℕ → Bool) → List (List ℕ) → List X × List (List ℕ)
read_joined read mark other [] = ([], [])
read_joined read mark other (w ∷ ws) = if other w then ([], w ∷ ws) else (map read (parts mark w), ws)

abbrev pub read_items : (List ℕ → Bool) → List (List ℕ) → List OrderItem × List (List ℕ)
read_items other ws = read_joined read_item comma other ws

abbrev pub read_groups : (List ℕ → Bool) → List (List ℕ) → List Group × List (List ℕ)
read_groups other ws = read_joined read_group semicolon other ws

pub items_read : (other : List ℕ → Bool) → ((w : List ℕ) → other (100 ∷ w) ≡ false) → (w : List ℕ) (ws : List (List ℕ)) → other w ≡ true → (items : List OrderItem) → All IsItem items →
    read_items other (list_words comma item_text items ++ w ∷ ws) ≡ (items, w ∷ ws)
items_read other apart w ws here [] good = ap (λ b. if b then ([], w ∷ ws) else (map read_item (parts comma w), ws)) here
items_read other apart w ws here (x ∷ xs) good =
    ap (λ b. if b then ([], joined comma item_text x xs ∷ w ∷ ws) else (map read_item (parts comma (joined comma item_text x xs)), w ∷ ws)) (apart _)
    ∙ ap (λ l. (l, w ∷ ws)) (joined_read comma item_text IsItem read_item item_read (item_clears (λ b. not (b == comma)) (free_passes comma refl) refl) x xs good)

group_apart : (g : Group) (l : List ℕ) → bytes_eq (group_text g ++ l) (codes "=") ≡ false
group_apart g l = by g.members
  where
    by : (is : List InstId) → bytes_eq ((insts_text is ++ codes ":" ++ insts_text g.deps) ++ l) (codes "=") ≡ false
    by [] = refl
    by (i ∷ is) = refl

pub groups_read : (ws : List (List ℕ)) (groups : List Group) → All IsReadableGroup groups → read_groups (λ w. bytes_eq w (codes "=")) (list_words semicolon group_text groups ++ codes "=" ∷ ws) ≡ (groups, codes "=" ∷ ws)
groups_read ws [] good = refl
groups_read ws (x ∷ xs) good =
    ap (λ b. if b then ([], joined semicolon group_text x xs ∷ codes "=" ∷ ws) else (map read_group (parts semicolon (joined semicolon group_text x xs)), codes "=" ∷ ws)) (group_apart x (listed (codes ";") (codes ";") group_text xs))
    ∙ ap (λ l. (l, codes "=" ∷ ws)) (joined_read semicolon group_text IsReadableGroup read_group group_read (group_clears (λ b. not (b == semicolon)) (free_passes semicolon refl) refl refl) x xs good)

pub items_solid : (items : List OrderItem) → All IsItem items → all_solid (list_words comma item_text items) ≡ true
items_solid [] good = refl
items_solid (x ∷ xs) good = and_from (solid (joined comma item_text x xs)) true (joined_every comma item_text IsItem (nat_lt 32) refl (item_clears (nat_lt 32) solid_passes refl) x xs good) refl

pub groups_solid : (groups : List Group) → All IsReadableGroup groups → all_solid (list_words semicolon group_text groups) ≡ true
groups_solid [] good = refl
groups_solid (x ∷ xs) good = and_from (solid (joined semicolon group_text x xs)) true (joined_every semicolon group_text IsReadableGroup (nat_lt 32) refl (group_clears (nat_lt 32) solid_passes refl refl) x xs good) refl
