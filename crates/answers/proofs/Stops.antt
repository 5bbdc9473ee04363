-- Where the files tell what they hold, the first file that isn't taken in for that is the same for every account, and there
-- is none where all are taken in.
use Rattle.std.proofs.Common.{◌≡◌, ℕ, suc, ◌+◌, ◌<◌, ◌≤◌, ◌⊎◌, inl, inr, List, [], ◌∷◌, ◌++◌, length, Option, Some, None, Ok, Err, refl, sym, ◌∙◌, ap, subst, arith}
use Rattle.std.specs.Prelude.{get_or, slice_get}
use Rattle.std.specs.Option.{IsSomeAnd}
use Rattle.std.proofs.lemmas.List.Sums.{sum_by-append, sum_by-cons}
use Rattle.std.proofs.lemmas.Bool.{cases_order}
use Rattle.std.proofs.lemmas.Option.{get_or_from_slice_get, same_Some, slice_get-get_or, slice_get_within}
use Rattle.orc_io.specs.Causes.{Rose}
use Rattle.orc_io.specs.Contents.{IsLongerThan}
use Rattle.orc_io.specs.declared.limits.TheConstants.{FILE_LIMIT}
use Rattle.elf_read.specs.declared.object.ElfObject.{ElfObject}
use Rattle.elf_read.specs.Object.{object_of}
use Rattle.link_graph.specs.Checks.{graph_of_object}
use Rattle.link_model.specs.declared.graph.LinkGraph.{LinkGraph}
use Rattle.session_model.specs.Meaning.{Meaning}
use Rattle.object_files.specs.Files.{AreLoaded, AreRead, HasStopped, InReading, InLength, InTotal, InObject, Wanting, IsObject, IsRefused, NoObject, NoGraph, Told, total}
use Rattle.object_files.specs.declared.error.ObjectWhy.{ObjectWhy}
use Rattle.object_files.specs.declared.error.ObjectWhy.TheVariants.{Elf, Graph}
use Rattle.object_files.specs.declared.error.LoadError.{LoadError}
use Rattle.object_files.specs.declared.error.LoadError.TheVariants as load
use Rattle.object_files.specs.declared.load.TheConstants.{TOTAL_LIMIT}
use Rattle.object_files.proofs.LaterTables.{same_refusal}
use Rattle.answers.specs.Files.{IsOfContents, file_answer}
use Rattle.answers.specs.declared.answer.Answer.{Answer}
use Rattle.answers.specs.declared.answer.Answer.TheVariants.{FileFault, NoMemory}

abbrev Contents : Type 0
Contents = List ℕ → Option (List ℕ)

-- Two accounts of the same files

-- what both say of one place is the same
abbrev Agree : List (List ℕ) → List (List ℕ) → Type 0
Agree c d = (k : ℕ) (x y : List ℕ) → slice_get c k ≡ Some x → slice_get d k ≡ Some y → x ≡ y

rest_agrees : (x y : List ℕ) (c d : List (List ℕ)) → Agree (x ∷ c) (y ∷ d) → Agree c d
rest_agrees x y c d a k u v e f = a (suc k) u v e f

-- accounts of as many files are the same
same_accounts : (c d : List (List ℕ)) → length c ≡ length d → Agree c d → c ≡ d
same_accounts [] [] e a = refl
same_accounts [] (y ∷ d) e a = absurd (omega (arith, e))
same_accounts (x ∷ c) [] e a = absurd (omega (arith, e))
same_accounts (x ∷ c) (y ∷ d) e a = ap (λ l. x ∷ l) (same_accounts c d (omega (arith, e)) (rest_agrees x y c d a)) ∙ ap (λ z. z ∷ d) (a 0 x y refl refl)

-- a longer account goes on after a shorter one
record GoesOn (c d : List (List ℕ)) : Type 0 where
  next : List ℕ
  rest : List (List ℕ)
  are : d ≡ c ++ next ∷ rest

goes_on : (c d : List (List ℕ)) → length c < length d → Agree c d → GoesOn c d
goes_on [] [] l a = absurd (omega (arith, l))
goes_on [] (y ∷ d) l a = record { next = y; rest = d; are = refl }
goes_on (x ∷ c) [] l a = absurd (omega (arith, l))
goes_on (x ∷ c) (y ∷ d) l a =
    let g = goes_on c d (omega (arith, l)) (rest_agrees x y c d a) in
    record { next = g.next; rest = g.rest; are = ap (λ z. z ∷ d) (sym (a 0 x y refl refl)) ∙ ap (λ l. x ∷ l) g.are }

read_agree : (f : Contents) (files c d : List (List ℕ)) → AreRead (Some f) files c → AreRead (Some f) files d → Agree c d
read_agree f files c d r s k x y e g =
    let name = get_or files k [] in
    let there : slice_get files k ≡ Some name = slice_get-get_or files k [] (omega (arith, slice_get_within c k x e, r.few)) in
    same_Some x y (sym (r.told_so k name x there e) ∙ s.told_so k name y there g)

-- the place after an account
after_account : (c rest : List (List ℕ)) (x : List ℕ) → slice_get (c ++ x ∷ rest) (length c) ≡ Some x
after_account [] rest x = refl
after_account (y ∷ c) rest x = after_account c rest x

-- What stops an account

-- the next file's bytes, and why they aren't taken in
data IsBad (k before : ℕ) (bytes : List ℕ) (e : LoadError) : Type 0 where
  Long : FILE_LIMIT < length bytes → e ≡ load.TooLong k → IsBad k before bytes e
  Many : length bytes ≤ FILE_LIMIT → TOTAL_LIMIT < before + length bytes → e ≡ load.TooLong k → IsBad k before bytes e
  Bad : (why : ObjectWhy) → length bytes ≤ FILE_LIMIT → before + length bytes ≤ TOTAL_LIMIT → IsRefused bytes why → e ≡ load.Refused k why → IsBad k before bytes e

record Stop (f : Contents) (files : List (List ℕ)) (e : LoadError) : Type 0 where
  contents : List (List ℕ)
  read : AreRead (Some f) files contents
  name : List ℕ
  there : slice_get files (length contents) ≡ Some name
  bytes : List ℕ
  content : f name ≡ Some bytes
  bad : IsBad (length contents) (total contents) bytes e

-- the bytes of a file that is longer than the limit
longer_bytes : (f : Contents) (name : List ℕ) → IsLongerThan FILE_LIMIT (Some f) name → (bytes : List ℕ) × (f name ≡ Some bytes) × (FILE_LIMIT < length bytes)
longer_bytes f name l = split (f name) refl
  where
    by_some : (o : Option (List ℕ)) → f name ≡ o → IsSomeAnd o (λ bytes. FILE_LIMIT < length bytes) → (bytes : List ℕ) × (f name ≡ Some bytes) × (FILE_LIMIT < length bytes)
    by_some None e is = absurd is
    by_some (Some bytes) e is = (bytes, e, is)

    split : (o : Option (List ℕ)) → f name ≡ o → (bytes : List ℕ) × (f name ≡ Some bytes) × (FILE_LIMIT < length bytes)
    split o e = by_some o e (subst (λ x. IsSomeAnd x (λ bytes. FILE_LIMIT < length bytes)) e l)

stop_of : (f : Contents) (files : List (List ℕ)) (before after : ℕ) (e : LoadError) → IsOfContents e → HasStopped (Some f) before after files e → Stop f files e
stop_of f files before after e of (InReading k contents read at few rose) = absurd of
stop_of f files before after e of (InLength k contents name read at there longer) =
    let b = longer_bytes f name longer in
    record { contents = contents; read = read; name = name; there = ap (slice_get files) at ∙ there; bytes = b.0; content = b.1; bad = Long b.2 (ap load.TooLong (sym at)) }
stop_of f files before after e of (InTotal k contents name bytes read at there content short many) =
    record { contents = contents; read = read; name = name; there = ap (slice_get files) at ∙ there; bytes = bytes; content = content; bad = Many short many (ap load.TooLong (sym at)) }
stop_of f files before after e of (InObject k contents name bytes why read at there content short few refused) =
    record { contents = contents; read = read; name = name; there = ap (slice_get files) at ∙ there; bytes = bytes; content = content; bad = Bad why short few refused (ap (λ n. load.Refused n why) (sym at)) }
stop_of f files before after e of Wanting = absurd of

-- an object isn't refused
not_refused : {P : Type 0} (bytes : List ℕ) (why : ObjectWhy) (names : List (List ℕ)) (g : LinkGraph) → IsRefused bytes why → IsObject names bytes g → P
not_refused bytes why names g (NoObject e q) is = let read = is.read in absurd (cc)
not_refused bytes why names g (NoGraph object e q made) is = absurd (both (same_refusal [] names is.object e (ap (graph_of_object []) same ∙ made)) is.made)
  where
    taken : (x y : ElfObject) → object_of bytes ≡ Ok x → object_of bytes ≡ Ok y → x ≡ y
    taken x y a b = cc

    same : is.object ≡ object
    same = taken is.object object is.read q

    both : graph_of_object names is.object ≡ Err e → graph_of_object names is.object ≡ Ok g → ⊥
    both a b = cc

-- bytes that weren't taken in stand in no account
not_taken : {P : Type 0} (f : Contents) (files c d : List (List ℕ)) (bytes : List ℕ) (rest : List (List ℕ)) (e : LoadError) → AreRead (Some f) files d → d ≡ c ++ bytes ∷ rest → IsBad (length c) (total c) bytes e → P
not_taken f files c d bytes rest e read are (Long long is) =
    let there : slice_get d (length c) ≡ Some bytes = ap (λ l. slice_get l (length c)) are ∙ after_account c rest bytes in
    let short = subst (λ (b : List ℕ). length b ≤ FILE_LIMIT) (get_or_from_slice_get d (length c) bytes bytes there) (read.short (length c) bytes (slice_get_within d (length c) bytes there)) in
    absurd (omega (arith, long, short))
not_taken f files c d bytes rest e read are (Many short many is) =
    let sum : total d ≡ total c + (length bytes + total rest) = ap total are ∙ (sum_by-append (λ (b : List ℕ). length b) c (bytes ∷ rest) ∙ ap (λ n. total c + n) (sum_by-cons (λ (b : List ℕ). length b) bytes rest)) in
    let within = read.within in
    absurd (omega (arith, sum, within, many))
not_taken f files c d bytes rest e read are (Bad why short few refused is) =
    let o = read.objects (length c) bytes (ap (λ l. slice_get l (length c)) are ∙ after_account c rest bytes) in
    not_refused bytes why o.0 o.1 refused o.2

-- no account goes past a stop
never_past : {P : Type 0} (f : Contents) (files d : List (List ℕ)) (e : LoadError) (s : Stop f files e) → AreRead (Some f) files d → length s.contents < length d → P
never_past f files d e s read l = not_taken f files s.contents d s.bytes g.rest e read (g.are ∙ ap (λ z. s.contents ++ z ∷ g.rest) same) s.bad
  where
    g : GoesOn s.contents d
    g = goes_on s.contents d l (read_agree f files s.contents d s.read read)

    told : f s.name ≡ Some g.next
    told = read.told_so (length s.contents) s.name g.next s.there (ap (λ l. slice_get l (length s.contents)) g.are ∙ after_account s.contents g.rest g.next)

    same : g.next ≡ s.bytes
    same = same_Some g.next s.bytes (sym told ∙ s.content)

-- bytes are refused for one reason
one_reason : (bytes : List ℕ) (a b : ObjectWhy) → IsRefused bytes a → IsRefused bytes b → a ≡ b
one_reason bytes a b (NoObject e q) (NoObject d r) = let same : e ≡ d = cc in ap Elf same
one_reason bytes a b (NoObject e q) (NoGraph o d r made) = absurd (cc)
one_reason bytes a b (NoGraph o e q made) (NoObject d r) = absurd (cc)
one_reason bytes a b (NoGraph o e q made) (NoGraph p d r none) =
    let same : o ≡ p = cc in
    let other : graph_of_object [] o ≡ Err d = ap (graph_of_object []) same ∙ none in
    let error : e ≡ d = cc in
    ap Graph error

-- and so they aren't taken in
one_bad : (k before : ℕ) (bytes : List ℕ) (d e : LoadError) → IsBad k before bytes d → IsBad k before bytes e → d ≡ e
one_bad k before bytes d e (Long l p) (Long m q) = p ∙ sym q
one_bad k before bytes d e (Long l p) (Many s m q) = p ∙ sym q
one_bad k before bytes d e (Long l p) (Bad why s m r q) = absurd (omega (arith, l, s))
one_bad k before bytes d e (Many s l p) (Long m q) = p ∙ sym q
one_bad k before bytes d e (Many s l p) (Many t m q) = p ∙ sym q
one_bad k before bytes d e (Many s l p) (Bad why t m r q) = absurd (omega (arith, l, m))
one_bad k before bytes d e (Bad why s l r p) (Long m q) = absurd (omega (arith, m, s))
one_bad k before bytes d e (Bad why s l r p) (Many t m q) = absurd (omega (arith, l, m))
one_bad k before bytes d e (Bad why s l r p) (Bad other t m u q) = p ∙ (ap (load.Refused k) (one_reason bytes why other r u) ∙ sym q)

-- two stops are the same
one_stop : (f : Contents) (files : List (List ℕ)) (d e : LoadError) → Stop f files d → Stop f files e → d ≡ e
one_stop f files d e s t = split (cases_order (length s.contents) (length t.contents))
  where
    split : (length s.contents ≡ length t.contents) ⊎ ((length s.contents < length t.contents) ⊎ (length t.contents < length s.contents)) → d ≡ e
    split (inr (inl l)) = never_past f files t.contents d s t.read l
    split (inr (inr l)) = never_past f files s.contents e t s.read l
    split (inl q) = one_bad (length s.contents) (total s.contents) s.bytes d e s.bad
        (subst (λ b. IsBad (length s.contents) (total s.contents) b e) (sym bytes) (subst (λ c. IsBad (length c) (total c) t.bytes e) (sym same) t.bad))
      where
        same : s.contents ≡ t.contents
        same = same_accounts s.contents t.contents q (read_agree f files s.contents t.contents s.read t.read)

        name : s.name ≡ t.name
        name = same_Some s.name t.name (sym s.there ∙ (ap (slice_get files) q ∙ t.there))

        bytes : s.bytes ≡ t.bytes
        bytes = same_Some s.bytes t.bytes (sym s.content ∙ (ap f name ∙ t.content))

-- What is used of it

-- a file isn't taken in for what the files hold, or it couldn't be read, or memory ran out
pub file_cases : {P : Type 0} (e : LoadError) (answer : Answer) → answer ≡ file_answer e → (IsOfContents e → P) → ((k : ℕ) → answer ≡ FileFault k → P) → (answer ≡ NoMemory → P) → P
file_cases (load.Fault k) answer is by_contents by_fault by_memory = by_fault k is
file_cases (load.TooLong k) answer is by_contents by_fault by_memory = by_contents tt
file_cases (load.Refused k why) answer is by_contents by_fault by_memory = by_contents tt
file_cases load.NoMemory answer is by_contents by_fault by_memory = by_memory is

-- where a file couldn't be read, the count of faults rose
pub fault_parts : (told : Told) (before after : ℕ) (files : List (List ℕ)) (e : LoadError) → HasStopped told before after files e → (k : ℕ) → e ≡ load.Fault k → (k < length files) × Rose before after
fault_parts told before after files e (InReading j contents read at few rose) k q = let same : j ≡ k = cc in (subst (λ n. n < length files) same few, rose)
fault_parts told before after files e (InLength j contents name read at there longer) k q = absurd (cc)
fault_parts told before after files e (InTotal j contents name bytes read at there content short many) k q = absurd (cc)
fault_parts told before after files e (InObject j contents name bytes why read at there content short few refused) k q = absurd (cc)
fault_parts told before after files e Wanting k q = absurd (cc)

pub stops_so : (f : Contents) (files : List (List ℕ)) (before after before' after' : ℕ) (d e : LoadError) → IsOfContents d → IsOfContents e → HasStopped (Some f) before after files d → HasStopped (Some f) before' after' files e → d ≡ e
stops_so f files before after before' after' d e p q s t = one_stop f files d e (stop_of f files before after d p s) (stop_of f files before' after' e q t)

pub loaded_never_stops : {P : Type 0} (f : Contents) (files names : List (List ℕ)) (units : List Meaning) (before after : ℕ) (e : LoadError) → IsOfContents e → HasStopped (Some f) before after files e → AreLoaded (Some f) files names units → P
loaded_never_stops f files names units before after e of s l =
    let stop = stop_of f files before after e of s in
    never_past f files l.contents e stop l.read (omega (arith, l.all, slice_get_within files (length stop.contents) stop.name stop.there))
