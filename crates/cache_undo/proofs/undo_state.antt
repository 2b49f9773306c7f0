mod Saving
