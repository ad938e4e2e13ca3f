-- What a store comes to for the drive that it is for, by what it asks for (document 01, Stores): "decode; test. A code
-- here ends the store with motion 00."
-- Assumes nothing.
use Rattle.common.specs.Pick.{pick}
use Rattle.status.specs.declared.drives.Drive.{Drive}
use Rattle.status.specs.Drives.{with_track, with_density, with_guard}
use Rattle.operations.specs.declared.operation.Operation.{Operation}
use Rattle.operations.specs.declared.decode.Decoded.{Decoded}
use Rattle.operations.specs.declared.decode.Decoded.TheVariants.{Reset, Code, Track, Enable, Guard, Density}
use Rattle.operations.specs.declared.decode.Decoded.TheVariants.{Operate}
use Rattle.operations.specs.declared.course.Course.{Course}
use Rattle.operations.specs.declared.course.Course.TheVariants.{Reset as ToReset, End, Enable as ToEnable, Set}
use Rattle.operations.specs.declared.course.Course.TheVariants.{Begin}
use Rattle.operations.specs.Codes.{illegal_motion}
use Rattle.operations.specs.Operation.{move_of}
use Rattle.operations.specs.Test.{may_move}

-- "Code 04 unless: .."
unfoldable pub test_of : Drive → Operation → Course
test_of drive operation =
    pick (may_move (move_of operation) drive.report drive.guard drive.gap) (Begin operation) (End illegal_motion)

-- "0: reset"; "00-03 track"; "08/09 clear/set enable; 0C/0D density 0/1"; "0A and 0B clear and set a guard"
unfoldable pub course_of : Drive → Decoded → Course
course_of drive Reset = ToReset
course_of drive (Code code) = End code
course_of drive (Track track) = Set (with_track drive track)
course_of drive (Enable enable) = ToEnable enable
course_of drive (Guard guard) = Set (with_guard drive guard)
course_of drive (Density density) = Set (with_density drive density)
course_of drive (Operate operation) = test_of drive operation
