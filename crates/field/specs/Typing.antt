-- Paper 02, request 01: 'keys come in a lent stream that may be cut'. Each key in its order, with the text, the cursor and the buffer that the one before left. Assumes nothing.
use Rattle.std.specs.Prelude.{ℕ, ◌+◌, List, [], ◌∷◌, Option, Some, None}
use Rattle.editing.specs.Keys.{Content, Settings, Effect, press}
use Rattle.editing.specs.Buffer.{laid}
use Rattle.field.specs.declared.Ending.{Ending}
use Rattle.field.specs.Endings.{ending_of}

-- what keys leave: 'with counts of keys read and of beeps', and the ending
pub record Typed : Type 0 where
  pub content : Content
  pub buffer : List ℕ
  pub read : ℕ
  pub beeps : ℕ
  pub ending : Option Ending

-- the same after so many keys read before, and so many beeps
abbrev pub after : ℕ → ℕ → Typed → Typed
after read beeps x = record { content = x.content; buffer = x.buffer; read = read + x.read; beeps = beeps + x.beeps; ending = x.ending }

-- what an ending key leaves, or what a key that is none and those after it leave
abbrev pub unless_ending : Option Ending → Typed → Typed → Typed
unless_ending None ended goes_on = goes_on
unless_ending (Some ending) ended goes_on = ended

-- 'keys after an ending key, which counts as read, are not read'. 'After .. each key, buffer bytes from the text's new end on are as before it': `laid`
unfoldable pub type_keys : Settings → Content → List ℕ → List ℕ → Typed
type_keys f c b [] = record { content = c; buffer = b; read = 0; beeps = 0; ending = None }
type_keys f c b (key ∷ keys) =
    let next : Effect = press f c key in
    unless_ending (ending_of key)
    (record { content = c; buffer = b; read = 1; beeps = 0; ending = ending_of key })
    (after 1 next.beeps (type_keys f next.content (laid next.content.text b) keys))
