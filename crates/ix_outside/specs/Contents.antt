-- What a site tells of its connections, and what its calls make of what it tells.
use Rattle.std.specs.Prelude.{◌≡◌, ◌⊎◌, ℕ, List, [], ◌∷◌, ◌++◌, length, take, Bool, true, Option}
use Rattle.std.specs.Prelude.{None, Result, Ok, Err, decimal}
use Rattle.std.specs.Io.KnownBytes.{append_known}
use Rattle.std.specs.Option.{option_map}
use Rattle.ix_outside.specs.Sink.{IsFront, AppendsPart}
use Rattle.ix_outside.specs.declared.event.Event.{Event}
use Rattle.ix_outside.specs.declared.event.EventKind.{EventKind}
use Rattle.ix_outside.specs.declared.event.EventKind.TheVariants.{Bytes, Closed, End}

-- an event, with the bytes that came
pub record GivenEvent : Type 0 where
  pub event : Event
  pub bytes : List ℕ

-- what one send sent: on a connection, bytes
pub record SentBytes : Type 0 where
  pub conn : ℕ
  pub bytes : List ℕ

-- a list of all sends, the places in it of those that answered Gone, counted from 0, and the names
-- of the `listen`s that answered Ok, in order
pub record Sends : Type 0 where
  pub sent : List SentBytes
  pub gone : List ℕ
  pub heard : List (List ℕ)

-- what a site tells: the events given, its sends, the text that they made, and whether one of them
-- answered Gone, each where it tells that
pub record Contents : Type 0 where
  pub given : Option (List GivenEvent)
  pub sends : Option Sends
  pub text : Option (List ℕ)
  pub lost : Option Bool

-- the bytes of an event stand at the front of the buffer
abbrev pub piece_of : EventKind → List ℕ → List ℕ
piece_of (Bytes n) buf = take n buf
piece_of Closed buf = []
piece_of End buf = []

-- what a send adds to the text: the connection's number, a space and the bytes
abbrev pub send_text : ℕ → List ℕ → List ℕ
send_text conn bytes = decimal conn ++ 32 ∷ bytes

-- with one more event behind those given
abbrev pub with_event : Event → List ℕ → Contents → Contents
with_event event bytes told =
    record told {
      given = option_map
          (λ events. events ++ record { event = event; bytes = bytes } ∷ []) told.given;
    }

-- with one more name behind those heard
abbrev pub with_heard : List ℕ → Sends → Sends
with_heard name sends = record sends { heard = sends.heard ++ name ∷ [] }

-- the contents with one more name behind those heard
abbrev pub with_name : List ℕ → Contents → Contents
with_name name told =
    record told { sends = option_map (with_heard name) told.sends }

-- with one more pair behind those sent
abbrev pub with_pair : ℕ → List ℕ → Sends → Sends
with_pair conn bytes sends =
    record sends { sent = sends.sent ++ record { conn = conn; bytes = bytes } ∷ [] }

-- with the place of one more pair among those of the sends that answered Gone
abbrev pub with_gone : ℕ → List ℕ → Sends → Sends
with_gone conn bytes sends =
    record (with_pair conn bytes sends) { gone = sends.gone ++ length sends.sent ∷ [] }

-- after a `listen` that answered Ok its name is heard; else nothing changed
abbrev pub Listens : {T E : Type 0} → List ℕ → Result T E → Contents → Contents → Type 0
Listens name (Ok done) old new = new ≡ with_name name old
Listens name (Err fault) old new = new ≡ old

-- an event that came is given, with its bytes from the buffer; else nothing changed
abbrev pub Gives : {E : Type 0} → List ℕ → Result Event E → Contents → Contents → Type 0
Gives buf (Ok event) old new = new ≡ with_event event (piece_of event.kind buf) old
Gives buf (Err fault) old new = new ≡ old

-- the bytes are sent, as a pair and as text
pub record SendsWhole (conn : ℕ) (bytes : List ℕ) (old new : Contents) : Type 0 where
  pub given : new.given ≡ old.given
  pub sends : new.sends ≡ option_map (with_pair conn bytes) old.sends
  pub text : new.text ≡ append_known old.text (send_text conn bytes)
  pub lost : new.lost ≡ old.lost

-- a front of the bytes is sent, at a place among those of the sends that answered Gone
pub record SendsFront (conn : ℕ) (bytes : List ℕ) (old new : Option Sends) : Type 0 where
  pub front : List ℕ
  pub is_front : IsFront front bytes
  pub sends : new ≡ option_map (with_gone conn front) old

-- what a send that answered Gone leaves: a front of it is sent; or the site tells its events or its
-- sends no more
pub record SendsPart (conn : ℕ) (bytes : List ℕ) (old new : Contents) : Type 0 where
  pub given : (new.given ≡ old.given) ⊎ (new.given ≡ None)
  pub sends : SendsFront conn bytes old.sends new.sends ⊎ (new.sends ≡ None)
  pub text : AppendsPart old.text (send_text conn bytes) new.text
  pub lost : new.lost ≡ option_map (λ lost. true) old.lost

-- after Ok all is sent, after Gone a part
abbrev pub SendsBytes : {T E : Type 0} → ℕ → List ℕ → Result T E → Contents → Contents → Type 0
SendsBytes conn bytes (Ok done) old new = SendsWhole conn bytes old new
SendsBytes conn bytes (Err fault) old new = SendsPart conn bytes old new
