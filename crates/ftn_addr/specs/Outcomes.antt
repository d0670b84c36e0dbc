-- What a function returns that reads in steps, each of which may be refused.
use Rattle.std.specs.Prelude.{◌≡◌, ◌⊎◌, Result, Ok, Err}

-- the first fault is told
infixl 10 ◌>>=◌
abbrev pub ◌>>=◌ : {A B E : Type 0} → Result A E → (A → Result B E) → Result B E
(Ok x) >>= f = f x
(Err fault) >>= f = Err fault

-- What was returned, seen by view, is what is read. A function that takes no memory says this.
abbrev pub GivesExactly : {X Y E : Type 0} → (X → Y) → Result X E → Result Y E → Type 0
GivesExactly view (Ok x) read = read ≡ Ok (view x)
GivesExactly view (Err fault) read = read ≡ Err fault

-- What was returned, seen by view, is what is read, unless it is a fault that may come at any time.
abbrev pub GivesUnless : {X Y E : Type 0} → (E → Type 0) → (X → Y) → Result X E → Result Y E → Type 0
GivesUnless free view (Ok x) read = read ≡ Ok (view x)
GivesUnless free view (Err fault) read = free fault ⊎ (read ≡ Err fault)

-- this fault is what is read, unless it is want of memory
abbrev pub Fails : {Y E : Type 0} → (memory fault : E) → Result Y E → Type 0
Fails memory fault read = (fault ≡ memory) ⊎ (read ≡ Err fault)

-- What was returned, seen by view, is what is read, unless it is want of memory.
abbrev pub Gives : {X Y E : Type 0} → (memory : E) → (X → Y) → Result X E → Result Y E → Type 0
Gives memory view result read = GivesUnless (λ fault. fault ≡ memory) view result read
