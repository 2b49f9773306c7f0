mod Move
