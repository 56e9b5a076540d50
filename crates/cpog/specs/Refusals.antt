-- The numbered refusals, and how a call chooses among its own. Assumes nothing.
use Rattle.std.specs.Prelude.{ℕ, List, [], ◌∷◌, None, Option}
use Rattle.std.specs.Option.{option_or}
use Rattle.cpog.specs.declared.refusal.Refusal.{Refusal}
use Rattle.cpog.specs.declared.refusal.Refusal.TheVariants.{TextTooLong, LineNotDue, BadValue, BadReference, NotACondition, TooDeep, TooManyNodes, TableTooLarge, TableLength, BadActions, ShortBuffer, AlreadyOpen, NotAllowed, Cycle, Clash, NotOpen, ShortRegisters, NotPresent, NotWaiting, Preceded, NotBegun, OtherRun, ShortReport, OtherSize, NotWellFormed}

-- the number of each refusal, and what is wrong where it is given
abbrev pub number_of : Refusal → ℕ
-- a text has more than 16,384 bytes
number_of TextTooLong = 1
-- a line is missing, not the one that is due, without its end, or after the last
number_of LineNotDue = 2
-- a value other than a condition breaks its rule
number_of BadValue = 3
-- an event name or an arc is given twice, or an arc names no event
number_of BadReference = 4
-- a condition is outside the grammar or its length
number_of NotACondition = 5
-- a condition is nested more than 12 deep
number_of TooDeep = 6
-- a text has more than 2,048 nodes
number_of TooManyNodes = 7
-- a table has more than 32 events or more than 8 variables
number_of TableTooLarge = 8
-- a table has another number of bytes than its conditions take
number_of TableLength = 9
-- there are fewer than 32 actions, or one of an event names a register above 31
number_of BadActions = 10
-- a buffer for events has fewer than 32 bytes
number_of ShortBuffer = 11
-- the run is open
number_of AlreadyOpen = 12
-- the opcode is not allowed
number_of NotAllowed = 13
-- events precede themselves: the lowest of them
number_of (Cycle e) = 14
-- two events clash: the pair with the least lower, then least higher event
number_of (Clash e f) = 15
-- the run is closed
number_of NotOpen = 16
-- there are fewer than 32 registers or latch cells
number_of ShortRegisters = 17
-- the event is not present
number_of NotPresent = 18
-- the event is begun or finished
number_of NotWaiting = 19
-- events that precede it are unfinished: the lowest of them
number_of (Preceded e) = 20
-- the event is not begun
number_of NotBegun = 21
-- the charge has the number of another run
number_of OtherRun = 22
-- the report has fewer than 32 bytes
number_of ShortReport = 23
-- two graphs differ in their number of events, or of variables where that matters
number_of OtherSize = 24
-- a graph has an allowed opcode with a cycle
number_of NotWellFormed = 25

-- a call's tests in their order: the first that found something is the refusal
abbrev pub first_of : List (Option Refusal) → Option Refusal
first_of [] = None
first_of (t ∷ ts) = option_or t (first_of ts)
